-- A tree has a report, or its book is refused, or it needs too many targets: never two of these.
use Rattle.std.proofs.Common.{◌≡◌, ◌∙◌, ℕ, List, [], Option, Some, ap, refl, subst, sym, arith}
use Rattle.std.specs.Prelude.{Err, IfOk, MatchOption, Ok, Result}
use Rattle.redo_book.specs.Book as books
use Rattle.redo_book.specs.Book.{IsText, Record}
use Rattle.redo_build.specs.Outcomes.{IsTooMany}
use Rattle.redo_report.specs.declared.report.Report.{Report}
use Rattle.redo_rules.specs.Build.{GivenView, rules_for}
use Rattle.redo_rules.specs.Results.{IsOfTree, IsRefused, IsResultOn, NeedsTooMany}
use Rattle.redo_past.specs.Past.{PastView}
use Rattle.redo_step.specs.Limits.{LimitsView}
use Rattle.redo_tree.specs.Tree.{Tree, file_at}
use Rattle.redo_which.specs.Candidates.{book_path}
use Rattle.redo_core.specs.declared.opening.OpenFault.{OpenFault as RunFault}
use Rattle.redo_core.specs.declared.opening.OpenFault.TheVariants.{Book, TooMany, Memory}
use Rattle.redo_history.specs.Answers.{AreSameAnswers, AreSameReports, MayAnswer, without_ledger}
use Rattle.redo_history.proofs.ReportLemmas.{OnePast, one-given}

-- what the laws of books say
abbrev pub NoFault : Type 0
NoFault = (text : List ℕ) (book : List Record) (n : ℕ) → IsText text book → books.IsRefused text n → ⊥

abbrev pub OneFault : Type 0
OneFault = (text : List ℕ) (n m : ℕ) → books.IsRefused text n → books.IsRefused text m → n ≡ m

-- a tree that has a past has no refused book
pub unrefused : NoFault → (tree : Tree) (past : PastView) → IsOfTree tree past → (n : ℕ) → IsRefused tree n → ⊥
unrefused law tree past of n refused =
    let M : Option (List ℕ) → Type 0 = λ o. MatchOption o (past.book ≡ []) (λ text. IsText text past.book) in
    law refused.0 past.book n
    (subst M (ap (λ (t : Tree). file_at t book_path) of.of_tree ∙ refused.1) of.is_past.book) refused.2

pub one-line : OneFault → (tree : Tree) (n m : ℕ) → IsRefused tree n → IsRefused tree m → n ≡ m
one-line law tree n m one other =
    let texts : Some one.0 ≡ Some other.0 = sym one.1 ∙ other.1 in
    let same : one.0 ≡ other.0 = cc in
    law other.0 n m (subst (λ (t : List ℕ). books.IsRefused t n) same one.2) other.2

pub not-too-many : OnePast → (tree : Tree) (request : List (List ℕ)) (limits : LimitsView) (report : Report) →
    IsResultOn tree request limits report → NeedsTooMany tree request limits → ⊥
not-too-many one_past tree request limits report is many =
    let same : many.0 ≡ is.0 = one-given one_past tree request limits many.0 is.0 many.1 is.1 in
    let over : IsTooMany (rules_for is.0) is.0.request is.0.limits.targets =
    subst (λ (g : GivenView). IsTooMany (rules_for g) g.request g.limits.targets) same many.2 in
    let within = is.2.built.within in
    omega (arith, over, within)

-- What the contracts of builds say of an answer

module _ (tree : Tree) (request : List (List ℕ)) (limits : LimitsView) where
  pub may-answer : (a : Result Report RunFault) → IfOk a (IsResultOn tree request limits) →
      ((n : ℕ) → a ≡ Err (Book n) → IsRefused tree n) → (a ≡ Err TooMany → NeedsTooMany tree request limits) →
      MayAnswer tree request limits a
  may-answer (Ok report) is refused many = is
  may-answer (Err (Book n)) is refused many = refused n refl
  may-answer (Err TooMany) is refused many = many refl
  may-answer (Err Memory) is refused many = tt

  -- and of one with a ledger
  may-ledger : {L : Type 0} (a : Result (Report × L) RunFault) → IfOk a (λ r. IsResultOn tree request limits r.0) →
      ((n : ℕ) → a ≡ Err (Book n) → IsRefused tree n) → (a ≡ Err TooMany → NeedsTooMany tree request limits) →
      MayAnswer tree request limits (without_ledger a)
  may-ledger (Ok made) is refused many = is
  may-ledger (Err (Book n)) is refused many = refused n refl
  may-ledger (Err TooMany) is refused many = many refl
  may-ledger (Err Memory) is refused many = tt

  -- of an equal tree, too
  pub may-many : {L : Type 0} (other : Tree) → tree ≡ other → (a : Result (Report × L) RunFault) →
      IfOk a (λ r. IsResultOn tree request limits r.0) → ((n : ℕ) → a ≡ Err (Book n) → IsRefused tree n) →
      (a ≡ Err TooMany → NeedsTooMany tree request limits) → MayAnswer other request limits (without_ledger a)
  may-many other same a is refused many =
      subst (λ (t : Tree). MayAnswer t request limits (without_ledger a)) same (may-ledger a is refused many)

  module _ (same : (one other : Report) → IsResultOn tree request limits one → IsResultOn tree request limits other →
      AreSameReports one other) (no_fault : NoFault) (one_fault : OneFault) (one_past : OnePast) where
    pub answers-alike : (one other : Result Report RunFault) → MayAnswer tree request limits one →
        MayAnswer tree request limits other → AreSameAnswers one other
    answers-alike (Err Memory) other is also = tt
    answers-alike (Ok one) (Ok other) is also = same one other is also
    answers-alike (Ok one) (Err (Book m)) is also = unrefused no_fault tree is.0.past is.1.of_tree m also
    answers-alike (Ok one) (Err TooMany) is also = not-too-many one_past tree request limits one is also
    answers-alike (Ok one) (Err Memory) is also = tt
    answers-alike (Err (Book n)) (Ok other) is also = unrefused no_fault tree also.0.past also.1.of_tree n is
    answers-alike (Err (Book n)) (Err (Book m)) is also = one-line one_fault tree n m is also
    answers-alike (Err (Book n)) (Err TooMany) is also = unrefused no_fault tree also.0.past also.1.of_tree n is
    answers-alike (Err (Book n)) (Err Memory) is also = tt
    answers-alike (Err TooMany) (Ok other) is also = not-too-many one_past tree request limits other also is
    answers-alike (Err TooMany) (Err (Book m)) is also = unrefused no_fault tree is.0.past is.1.of_tree m also
    answers-alike (Err TooMany) (Err TooMany) is also = tt
    answers-alike (Err TooMany) (Err Memory) is also = tt
