-- A small history: of its targets one is kept, one is begun since an entry of its record falls, and one since it is
-- requested.
use Rattle.std.specs.Prelude.{◌≡◌, ℕ, List, [], ◌∷◌, ◌++◌, Some, None, codes}
use Rattle.redo_digest.specs.Digest.{state_of}
use Rattle.redo_book.specs.Book.{Record, book_lines, text_of}
use Rattle.redo_book.specs.declared.book.BookEntry.TheVariants.{Change, Create}
use Rattle.redo_report.specs.declared.report.Report.{Report}
use Rattle.redo_rules.specs.Results.{IsResultOn}
use Rattle.redo_step.specs.Limits.{LimitsView}
use Rattle.redo_tree.specs.Tree.{Directory, File, Tree}
use Rattle.redo_history.specs.Histories.{HasBookOf, IsAfter, IsPlainOn, NoneConfused, Run}

abbrev pub line : List ℕ → List ℕ
line bytes = bytes ++ 10 ∷ []

-- The first run. `all` depends on `head` and `text`, and makes no file

abbrev pub script_of_all : List ℕ
script_of_all = line (codes "redo-ifchange head text")

-- `head` makes a file
abbrev pub script_of_head : List ℕ
script_of_head = line (codes "echo head")

abbrev pub file_of_head : List ℕ
file_of_head = line (codes "head")

-- `text` is made by the rule for all others, without a file
abbrev pub script_of_others : List ℕ
script_of_others = line (codes "true")

abbrev pub first_tree : Tree
first_tree = ([], Directory)
    ∷ (codes "all.do", File script_of_all)
    ∷ (codes "default.do", File script_of_others)
    ∷ (codes "head.do", File script_of_head)
    ∷ []

abbrev pub request : List (List ℕ)
request = codes "all" ∷ []

abbrev pub limits : LimitsView
limits = record { targets = 3; file_bytes = 100 }

-- its book
abbrev pub record_of_all : Record
record_of_all = record {
  target = codes "all";
  state = None;
  entries = Change (state_of (Some script_of_all)) (codes "all.do")
      ∷ Change (state_of (Some file_of_head)) (codes "head")
      ∷ Change None (codes "text") ∷ [];
}

abbrev pub record_of_head : Record
record_of_head = record {
  target = codes "head";
  state = state_of (Some file_of_head);
  entries = Change (state_of (Some script_of_head)) (codes "head.do") ∷ [];
}

-- if there were a `text.do`, it would be made by that
abbrev pub record_of_text : Record
record_of_text = record {
  target = codes "text";
  state = None;
  entries = Create (codes "text.do") ∷ Change (state_of (Some script_of_others)) (codes "default.do") ∷ [];
}

abbrev pub first_book : List Record
first_book = record_of_all ∷ record_of_head ∷ record_of_text ∷ []

-- The next run, over the tree with the book and the file of the first. Somebody has written `text.do`

abbrev pub script_of_text : List ℕ
script_of_text = line (codes "echo text")

abbrev pub next_tree : Tree
next_tree = ([], Directory)
    ∷ (codes ".redo-book", File (text_of (book_lines first_book)))
    ∷ (codes "all.do", File script_of_all)
    ∷ (codes "default.do", File script_of_others)
    ∷ (codes "head", File file_of_head)
    ∷ (codes "head.do", File script_of_head)
    ∷ (codes "text.do", File script_of_text)
    ∷ []

abbrev pub run_to : Report → Run
run_to first = record { tree = first_tree; request = request; limits = limits; report = first }

-- the reports of both runs, and that of the sources of the next tree alone, are as the laws of histories ask. In the next
-- run only the scripts of `all` and `text` are begun
pub record IsSmallHistory (first next plain : Report) : Type 0 where
  pub after : IsAfter HasBookOf limits.file_bytes (run_to first ∷ []) next_tree
  pub is_plain : IsPlainOn next_tree request limits plain
  pub result : IsResultOn next_tree request limits next
  pub none_confused : NoneConfused (run_to first ∷ []) next_tree next
  pub first_begun : first.begun.items ≡ codes "all" ∷ codes "head" ∷ codes "text" ∷ []
  pub next_begun : next.begun.items ≡ codes "all" ∷ codes "text" ∷ []
  pub plain_begun : plain.begun.items ≡ codes "all" ∷ codes "head" ∷ codes "text" ∷ []
