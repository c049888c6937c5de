-- The lines of a report and of a record, part by part.
use Rattle.std.proofs.Common.{◌≡◌, ℕ, List, [], ◌∷◌, ◌++◌, Option, append_assoc, length, refl, sym, ap, ◌∙◌}
use Rattle.std.specs.Prelude.{Bool, codes, decimal, flat_map, if◌then◌else◌}
use Rattle.std.proofs.lemmas.Grind.{flat_map-append}
use Rattle.redo_record.specs.declared.deps.Dep.{Dep}
use Rattle.redo_record.specs.Entries.{change_of, creates, entries_of, search_entries}
use Rattle.redo_report.specs.ReportText.{begun_line, dep_line, file_head, file_text, head_text, report_text, row_text}
use Rattle.redo_report.specs.declared.report.Row.{Row}
use Rattle.redo_report.specs.declared.report.Report.{Report}

-- the lines of the candidates that are missing
abbrev pub create_lines : List (List ℕ) → List ℕ
create_lines missing = flat_map (λ path. codes "dep create " ++ path ++ 10 ∷ []) missing

created : (missing : List (List ℕ)) → create_lines missing ≡ flat_map dep_line (creates missing)
created [] = refl
created (p ∷ ps) = ap (λ rest. (codes "dep create " ++ p ++ 10 ∷ []) ++ rest) (created ps)

-- lines with that front are these
pub front-lines : (front : List ℕ) (missing : List (List ℕ)) → front ≡ codes "dep create " → flat_map (λ path. front ++ path ++ 10 ∷ []) missing ≡ create_lines missing
front-lines front missing e = ap (λ f. flat_map (λ path. f ++ path ++ 10 ∷ []) missing) e

-- a record's text is that of the candidates, of the .do file and of what the script declared
pub record-lines : (missing : List (List ℕ)) (do_file : Option (List ℕ)) (own deps : List Dep) → deps ≡ entries_of missing do_file own
    → flat_map dep_line deps ≡ (create_lines missing ++ flat_map dep_line (change_of do_file)) ++ flat_map dep_line own
record-lines missing do_file own deps is =
    let rest = flat_map dep_line own in
    ap (flat_map dep_line) is
    ∙ flat_map-append dep_line (search_entries missing do_file) own
    ∙ ap (λ l. l ++ rest) (flat_map-append dep_line (creates missing) (change_of do_file)
    ∙ ap (λ l. l ++ flat_map dep_line (change_of do_file)) (sym (created missing)))

-- the files, if they are wanted
abbrev pub wanted_files : Report → Bool → List ℕ
wanted_files report with_files = if with_files then flat_map file_text report.files.items else []

-- what stands before the files is the text of the rows, and of the begun scripts
pub head-lines : (report : Report) (rows : List Row) (begun : List (List ℕ)) → rows ≡ report.rows.items → begun ≡ report.begun.items →
    head_text report ≡ flat_map row_text rows ++ flat_map begun_line begun
head-lines report rows begun r b =
    ap (λ l. flat_map row_text l ++ flat_map begun_line report.begun.items) (sym r)
    ∙ ap (λ l. flat_map row_text rows ++ flat_map begun_line l) (sym b)

-- a report's text is that, the files that are wanted, and the end
pub report-lines : (report : Report) (with_files : Bool) (files : List ℕ) → files ≡ wanted_files report with_files →
    report_text report with_files ≡ (head_text report ++ files) ++ codes "end\n"
report-lines report with_files files f = ap (λ l. (head_text report ++ l) ++ codes "end\n") (sym f)

-- a file in a bundle's form is the line before its bytes, these, and a newline
pub file-lines : (path bytes : List ℕ) (file : List ℕ × List ℕ) → path ≡ file.0 → bytes ≡ file.1 → file_text file ≡ file_head (length bytes) path ++ (bytes ++ 10 ∷ [])
file-lines path bytes file p b =
    let sized = codes "file " ++ decimal (length bytes) in
    let front = sized ++ 32 ∷ path in
    ap (λ q. file_text (q, file.1)) (sym p) ∙ ap (λ c. file_text (path, c)) (sym b)
    ∙ append_assoc front (10 ∷ bytes) (10 ∷ [])
    ∙ sym (append_assoc front (10 ∷ []) (bytes ++ 10 ∷ []))
    ∙ ap (λ head. head ++ (bytes ++ 10 ∷ [])) (append_assoc sized (32 ∷ path) (10 ∷ []))
