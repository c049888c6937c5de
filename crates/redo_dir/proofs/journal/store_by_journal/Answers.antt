use Rattle.std.proofs.Common.{◌≡◌, ◌∙◌, ◌++◌, ◌∷◌, [], ap, rules, length, subst, sym, take, Err}
use Rattle.std.proofs.lemmas.List.{length-map}
use Rattle.std.specs.IoError.{error_kind}
use Rattle.std.specs.List.{AllByRecursion}
use Rattle.std.specs.Prelude.{IfErr, IsUtf8}
use Rattle.redo_dir.specs.Storing.{HasTextsByJournal, IsUnstoredByJournal, paths_to_store, steps_done, steps_to_store}
use Rattle.redo_dir.specs.Stored.{HasTexts, IsUnstored, Journals, place_of, puts_in}
use Rattle.redo_dir.specs.declared.faults.JournalFault.TheVariants.{File}
use Rattle.redo_dir.specs.inside.Batches.{Files, Refusals, paths_of}
use Rattle.redo_dir.proofs.JournalLemmas.{all_are_texts, first_steps, texts_at_end, texts_within, unstored_at_end, unstored_within}
use Rattle.redo_dir.proofs.journal.store_by_journal.Goals as goal

pub returns-in_err-store_files-clause-text : goal.returns-in_err-store_files-clause-text
returns-in_err-store_files-clause-text g c =
    let files : Files = c.args.new.now.files.items in
    let fault = c.in_err-store_files.field-0.0 in
    let result : Err (File fault) ≡ c.from_residual.result = search rules in
    let text : HasTexts {A = Unit {0}} (Err fault) (paths_of files) = subst (λ fs. HasTexts {A = Unit {0}} (Err fault) (paths_of fs)) c.deref.ensures.value c.in_err-store_files.ensures.text in
    subst (λ r. HasTextsByJournal r (paths_to_store files)) result (texts_within (paths_of files) _ fault text)

pub returns-in_err-store_files-clause-done : goal.returns-in_err-store_files-clause-done
returns-in_err-store_files-clause-done g c =
    let files : Files = c.args.new.now.files.items in
    let book = c.args.new.now.book in let tree = c.args.tree.now in
    let old = g.D.WorkDir.done c.args.dir.now in
    let fault = c.in_err-store_files.field-0.0 in
    let result : Err (File fault) ≡ c.from_residual.result = search rules in
    let text : HasTexts {A = Unit {0}} (Err fault) (paths_of files) = subst (λ fs. HasTexts {A = Unit {0}} (Err fault) (paths_of fs)) c.deref.ensures.value c.in_err-store_files.ensures.text in
    let puts = puts_in tree (take (place_of fault) files) in
    let same : puts_in tree (take (place_of fault) c.deref.result.now) ≡ puts = ap (λ fs. puts_in tree (take (place_of fault) fs)) c.deref.ensures.value in
    let done : g.D.WorkDir.done c.store_files.new.dir ≡ (old ++ (Journals book ∷ [])) ++ puts =
    c.store_files.ensures.stored ∙ search rules in
    subst (λ r. g.D.WorkDir.done c.store_files.new.dir ≡ old ++ take (steps_done r files) (steps_to_store tree book files)) result
    (done ∙ first_steps tree book files old fault text)

pub returns-in_err-store_files-clause-refused : goal.returns-in_err-store_files-clause-refused
returns-in_err-store_files-clause-refused g c =
    let told : Refusals = λ path kind. (d : g.row.D.Denot) × g.D.DirView.refuses d path kind in
    let files : Files = c.args.new.now.files.items in
    let fault = c.in_err-store_files.field-0.0 in
    let result : Err (File fault) ≡ c.from_residual.result = search rules in
    let refused : IsUnstored told (paths_of files) fault = subst (λ fs. IsUnstored told (paths_of fs) fault) c.deref.ensures.value c.in_err-store_files.ensures.refused in
    subst (λ r. IfErr r (IsUnstoredByJournal told (paths_to_store files))) result (unstored_within told (paths_of files) _ fault refused)

pub returns-in-Err-finish-clause-text : goal.returns-in-Err-finish-clause-text
returns-in-Err-finish-clause-text g c =
    let files : Files = c.args.new.now.files.items in
    let kind = error_kind c.in-Err-finish.error in
    let all : AllByRecursion IsUtf8 (paths_of files) = subst (λ fs. AllByRecursion IsUtf8 (paths_of fs)) c.deref.ensures.value c.in_ok-store_files.ensures.text in
    let count : c.len.result ≡ length files = search rules in
    texts_at_end (paths_of files) c.len.result kind c.at-fault.result all (count ∙ sym (length-map files (λ f. f.0))) (search rules)

pub returns-in-Err-finish-clause-refused : goal.returns-in-Err-finish-clause-refused
returns-in-Err-finish-clause-refused g c =
    let told : Refusals = λ path kind. (d : g.row.D.Denot) × g.D.DirView.refuses d path kind in
    let files : Files = c.args.new.now.files.items in
    let kind = error_kind c.in-Err-finish.error in
    let count : c.len.result ≡ length files = search rules in
    unstored_at_end told (paths_of files) c.len.result kind c.at-fault.result (c.store_files.new.dir, c.in-Err-finish.ensures.refused)
    (count ∙ sym (length-map files (λ f. f.0))) (search rules)

pub returns-clause-text : goal.returns-clause-text
returns-clause-text g c =
    let files : Files = c.args.new.now.files.items in
    let all : AllByRecursion IsUtf8 (paths_of files) = subst (λ fs. AllByRecursion IsUtf8 (paths_of fs)) c.deref.ensures.value c.in_ok-store_files.ensures.text in
    all_are_texts (paths_of files) all
