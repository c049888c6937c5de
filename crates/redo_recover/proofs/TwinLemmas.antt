-- What somebody writes after a run that was broken off counts as if there had been no such run.
use Rattle.std.proofs.Common.{◌≡◌, ◌≢◌, ℕ, true, false, cond, inl, inr, List}
use Rattle.std.proofs.Common.{Some, None, refl, sym, ap, subst, ◌∙◌}
use Rattle.std.proofs.lemmas.Bool.{cases_Bool}
use Rattle.std.proofs.lemmas.Slice.Eq.{bytes_eq-Decides}
use Rattle.std.specs.Prelude.{◌↔◌, zero, suc, option_and_then}
use Rattle.std.specs.Str.{bytes_eq}
use Rattle.redo_path.proofs.ApartLemmas.{apart}
use Rattle.redo_names.specs.Paths.{is_among}
use Rattle.redo_tree.specs.Tree.{Directory, Tree, bytes_of, file_at, node_at}
use Rattle.redo_tree.proofs.KeptLemmas.{both_ways, one_sorted}
use Rattle.redo_which.specs.Candidates.{book_path}
use Rattle.redo_book.specs.Book.{Record, book_lines, text_of}
use Rattle.redo_report.specs.declared.report.Report.{Report}
use Rattle.redo_past.specs.Past.{IsPast, PastView, has_digest, is_generated, set_aside}
use Rattle.redo_past.proofs.OrderLemmas.{same_path}
use Rattle.redo_past.proofs.PastLemmas.{past_book}
use Rattle.redo_rules.specs.Build.{GivenView}
use Rattle.redo_rules.specs.Results.{IsResult}
use Rattle.redo_dir.specs.Own.{is_own}
use Rattle.redo_mend.proofs.MendLemmas.{no-dir}
use Rattle.redo_mend.proofs.OneLemmas.{OneBook, one-book-of}
use Rattle.redo_mend.proofs.SaidLemmas.{said-found, said-is}
use Rattle.redo_recover.specs.Broken.{GoesOn, IsStart, journal_of}
use Rattle.redo_recover.specs.Opening.{AreTwins, IsToldBy, IsTwinTold, StayTwins}
use Rattle.redo_recover.proofs.BreakLemmas.{either-dir, same-node, sources-tree, stays-dir, was-dir}
use Rattle.redo_recover.proofs.OpenLemmas.{goes-on-opened}
use Rattle.redo_recover.proofs.SourceLemmas.{at-book, at-own, book-aside, in-aside, left, made-said, out-aside, said-made}
use Rattle.redo_recover.proofs.StepLemmas.{none-cond}
use Rattle.redo_recover.proofs.SourceLemmas.{source-at, stored, told-of, unsourced, untold-of}

module _ (law : OneBook) (given : GivenView) (result : Report) (is : IsResult given result) (start : IsStart given.past) (before : PastView) (began : IsStart before) (alike : given.past.sources ≡ before.sources) (now : Tree) (past : PastView) (on : GoesOn given result is now past) (other : PastView) (other_past : IsPast other) (twins : AreTwins given result is now before other.tree) where
  abbrev own_text : List ℕ
  own_text = journal_of given result is

  -- the twin has the book that it had
  twin-book : other.book ≡ before.book
  twin-book = one-book-of law (file_at other.tree book_path) (file_at before.tree book_path) other.book before.book twins.book other_past.book began.is_past.book

  abbrev old : List Record
  old = before.book

  twin-at : (p : List ℕ) → file_at other.sources p ≡ cond (is_among (set_aside other.tree old) p) None (file_at other.tree p)
  twin-at p = source-at other twins.is_tree other_past p ∙ ap (λ (b : List Record). cond (is_among (set_aside other.tree b) p) None (file_at other.tree p)) twin-book

  -- where the file is none, neither has one
  none-at : (p : List ℕ) → file_at other.tree p ≡ None → file_at other.sources p ≡ None
  none-at p none = twin-at p ∙ ap (cond (is_among (set_aside other.tree old) p) None) none ∙ none-cond (is_among (set_aside other.tree old) p)

  -- somebody wrote the same into both
  theirs : (p : List ℕ) → p ≢ book_path → is_own own_text p ≡ false → file_at now p ≡ file_at other.tree p → (IsToldBy given result is now p ↔ IsTwinTold before other.tree p) → file_at past.sources p ≡ file_at other.sources p
  theirs p n m file told =
      (elim (file_at other.tree p) as (λ o. file_at other.tree p ≡ o → file_at past.sources p ≡ file_at other.sources p) [
        | None ↦ λ none.
            let here : file_at past.tree p ≡ None = ap (option_and_then bytes_of) (on.mended.others p n m) ∙ file ∙ none in
            let mine : file_at past.sources p ≡ None =
            source-at past on.mended.is_tree on.is_past p ∙ ap (cond (is_among (set_aside past.tree past.book) p) None) here ∙ none-cond (is_among (set_aside past.tree past.book) p) in
            mine ∙ sym (none-at p none)
        | Some b ↦ λ some. elim (cases_Bool (is_among (set_aside other.tree old) p)) [
          | inl among ↦
              let out = out-aside other.tree old p n among in
              let twin_told : IsTwinTold before other.tree p = record {
                of = out.0;
                said = said-found other.tree old p out.0 (past_book before began.is_past).sorted (record { item = out.1; at = out.2; as_said = made-said (file_at other.tree out.0.target) out.0.state out.3 });
              } in
              let mine_told = told.1 twin_told in
              let mine = told-of given result is start law now past on p b n m (file ∙ some) mine_told.of mine_told.said in
              mine ∙ sym (twin-at p ∙ ap (λ c. cond c None (file_at other.tree p)) among)
          | inr source ↦
              let never : IsToldBy given result is now p → ⊥ = λ mine_told.
              (let twin_told = told.0 mine_told in
              let said = said-is other.tree old p twin_told.of twin_told.said in
              let made = said-made (file_at other.tree twin_told.of.target) twin_told.of.state b (ap (file_at other.tree) said.at ∙ some) said.as_said in
              let bad : true ≡ false = sym (ap (is_among (set_aside other.tree old)) (sym said.at) ∙ in-aside other.tree old twin_told.of said.item made) ∙ source in
              apart cc) in
              let mine = untold-of given result is start law now past on p b n m (file ∙ some)
              (λ r e. never (record { of = r; said = inl e }))
              (λ r e. never (record { of = r; said = inr e })) in
              mine ∙ sym (twin-at p ∙ ap (λ c. cond c None (file_at other.tree p)) source ∙ some)
        ]
      ]) refl

  -- nobody wrote
  nobody : (p : List ℕ) → file_at other.tree p ≡ file_at before.tree p → p ≢ book_path → file_at other.sources p ≡ file_at given.past.sources p
  nobody p file n =
      (elim (file_at before.tree p) as (λ o. file_at before.tree p ≡ o → file_at other.sources p ≡ file_at before.sources p) [
        | None ↦ λ none.
            none-at p (file ∙ none) ∙ sym (source-at before began.is_tree began.is_past p ∙ ap (cond (is_among (set_aside before.tree old) p) None) none ∙ none-cond (is_among (set_aside before.tree old) p))
        | Some b ↦ λ some.
            let state : (r : Record) → r.target ≡ p → is_generated other.tree r ≡ is_generated before.tree r =
            λ r at. ap (λ f. has_digest f r.state) (ap (file_at other.tree) at ∙ file ∙ ap (file_at before.tree) (sym at)) in
            let aside : is_among (set_aside other.tree old) p ≡ is_among (set_aside before.tree old) p =
            both_ways (is_among (set_aside other.tree old) p) (is_among (set_aside before.tree old) p)
            (λ h. let out = out-aside other.tree old p n h in ap (is_among (set_aside before.tree old)) (sym out.2) ∙ in-aside before.tree old out.0 out.1 (sym (state out.0 out.2) ∙ out.3))
            (λ h. let out = out-aside before.tree old p n h in ap (is_among (set_aside other.tree old)) (sym out.2) ∙ in-aside other.tree old out.0 out.1 (state out.0 out.2 ∙ out.3)) in
            twin-at p ∙ ap (λ c. cond c None (file_at other.tree p)) aside ∙ ap (cond (is_among (set_aside before.tree old) p) None) file ∙ sym (source-at before began.is_tree began.is_past p)
      ]) refl ∙ ap (λ t. file_at t p) (sym alike)

  -- a directory of the one is one of the other
  dir-there : (p : List ℕ) → node_at given.past.tree p ≡ Some Directory → node_at before.tree p ≡ Some Directory
  dir-there p d = was-dir before began.is_tree began.is_past p (ap (λ t. node_at t p) (sym alike) ∙ stays-dir given.past start.is_tree start.is_past p d)

  dir-here : (p : List ℕ) → node_at before.tree p ≡ Some Directory → node_at given.past.tree p ≡ Some Directory
  dir-here p d = was-dir given.past start.is_tree start.is_past p (ap (λ t. node_at t p) alike ∙ stays-dir before began.is_tree began.is_past p d)

  by-file : (p : List ℕ) → node_at past.tree p ≢ Some Directory → node_at other.tree p ≢ Some Directory → file_at past.sources p ≡ file_at other.sources p → node_at past.sources p ≡ node_at other.sources p
  by-file p n m e =
      same-node (node_at past.sources p) (node_at other.sources p)
      (λ d. n (was-dir past on.mended.is_tree on.is_past p d))
      (λ d. m (was-dir other twins.is_tree other_past p d)) e

  both-dirs : (p : List ℕ) → node_at past.tree p ≡ Some Directory → node_at other.tree p ≡ Some Directory → node_at past.sources p ≡ node_at other.sources p
  both-dirs p d e = stays-dir past on.mended.is_tree on.is_past p d ∙ sym (stays-dir other twins.is_tree other_past p e)

  at-each : (p : List ℕ) → node_at past.sources p ≡ node_at other.sources p
  at-each p = elim (cases_Bool (bytes_eq p book_path)) [
    | inl book ↦
        let there : file_at other.sources book_path ≡ None = twin-at book_path ∙ ap (λ c. cond c None (file_at other.tree book_path)) (book-aside other.tree old) in
        let here = at-book given result is start law now past on in
        subst (λ q. node_at past.sources q ≡ node_at other.sources q) (sym (same_path p book_path book))
        (by-file book_path (λ d. no-dir (node_at past.tree book_path) (text_of (book_lines on.book)) on.mended.has_book d) twins.book_place (here ∙ sym there))
    | inr no_book ↦
        let n : p ≢ book_path = λ e. (let bad : true ≡ false = sym ((bytes_eq-Decides p book_path).1 e) ∙ no_book in apart cc) in
        elim (cases_Bool (is_own own_text p)) [
          | inl own ↦
              let never = twins.own p n own in
              by-file p (λ d. twins.files p n own ((on.mended.directories p).0 d)) (λ d. (let bad : None ≡ Some Directory = sym never ∙ d in apart cc))
              (at-own given result is start law now past on p n own ∙ sym (none-at p (ap (option_and_then bytes_of) never)))
          | inr m ↦
              let mended = on.mended.others p n m in
              elim (twins.edits p n m) [
                | inr edit ↦ elim (either-dir (node_at other.tree p)) [
                  | inl d ↦ both-dirs p (mended ∙ edit.0 ∙ d) d
                  | inr none ↦ by-file p (λ d. none (sym edit.0 ∙ sym mended ∙ d)) none (theirs p n m (ap (option_and_then bytes_of) edit.0) edit.1)
                ]
                | inl unwritten ↦
                    let twin = unwritten.1 in
                    let there = nobody p (ap (option_and_then bytes_of) twin) n in
                    elim unwritten.0 [
                      | inl same ↦ elim (either-dir (node_at given.past.tree p)) [
                        | inl d ↦ both-dirs p (mended ∙ same ∙ d) (twin ∙ dir-there p d)
                        | inr none ↦ by-file p (λ d. none (sym same ∙ sym mended ∙ d)) (λ d. none (dir-here p (sym twin ∙ d)))
                            (left given result is start law now past on p n m (ap (option_and_then bytes_of) same) ∙ sym there)
                      ]
                      | inr put ↦
                          let file : file_at now p ≡ Some put.0 = ap (option_and_then bytes_of) put.2 in
                          by-file p (λ d. no-dir (node_at now p) put.0 file (sym mended ∙ d)) (λ d. put.1.no_directory (dir-here p (sym twin ∙ d)))
                          (stored given result is start law now past on p put.0 put.1 file ∙ sym (there ∙ unsourced given result is start p put.0 put.1))
                    ]
              ]
        ]
  ]

  pub twin-sources : past.sources ≡ other.sources
  twin-sources = one_sorted past.sources other.sources (sources-tree past on.mended.is_tree on.is_past).sorted (sources-tree other twins.is_tree other_past).sorted at-each

-- ---- any number of runs

often-twins : OneBook → (n : ℕ) (before twin_before after twin_after : PastView) → IsStart before → IsStart twin_before → before.sources ≡ twin_before.sources → StayTwins n before twin_before after twin_after → after.sources ≡ twin_after.sources
often-twins law zero before twin_before after twin_after start began alike same =
    ap (λ (x : PastView). x.sources) same.0 ∙ alike ∙ sym (ap (λ (x : PastView). x.sources) same.1)
often-twins law (suc n) before twin_before after twin_after start began alike broke =
    let mid = broke.0 in let twin_mid = broke.1 in let step = broke.2 in
    let first = subst IsStart (sym step.from) start in
    let same : step.given.past.sources ≡ twin_before.sources = ap (λ (x : PastView). x.sources) step.from ∙ alike in
    let on = goes-on-opened law step.given step.result step.is first step.now step.twins.journal step.twins.old mid step.opens in
    let sources = twin-sources law step.given step.result step.is first twin_before began same step.now mid on twin_mid step.twin_past step.twins in
    let next : IsStart mid = record {
      is_tree = on.mended.is_tree;
      is_past = on.is_past;
      book_place = λ d. no-dir (node_at mid.tree book_path) (text_of (book_lines on.book)) on.mended.has_book d;
    } in
    let twin_next : IsStart twin_mid = record { is_tree = step.twins.is_tree; is_past = step.twin_past; book_place = step.twins.book_place } in
    often-twins law n mid twin_mid after twin_after next twin_next sources broke.3

pub stay-twins : OneBook → (n : ℕ) (start after twin_after : PastView) → IsStart start → StayTwins n start start after twin_after → after.sources ≡ twin_after.sources
stay-twins law n start after twin_after is stay = often-twins law n start start after twin_after is is refl stay
