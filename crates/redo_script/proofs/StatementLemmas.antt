-- Lists of statements and of open ifs, as they are seen.
use Rattle.std.proofs.Common.{◌≡◌, ℕ, suc, ◌+◌, ◌==◌, false, List, [], ◌∷◌, ◌++◌, length, refl, sym, ap, ◌∙◌, map}
use Rattle.std.proofs.Common.{arith, zero, ◌<◌, take, drop, get_or, set, add-one}
use Rattle.std.proofs.Math.Seq.{drop-cons}
use Rattle.std.proofs.lemmas.Bool.{ne_eqb}
use Rattle.redo_script.specs.declared.ast.Stmt.{Stmt}
use Rattle.redo_script.specs.declared.ast.Stmt.TheOpen.{Stmt-F}
use Rattle.redo_script.specs.declared.ast.Stmt.TheViews.{out-Stmt, outs-If, outs-Loop, outs-Simple}
use Rattle.redo_script.specs.declared.ast.Command.{Command as CommandTree}
use Rattle.redo_script.specs.declared.ast.Condition.{Condition as ConditionTree}
use Rattle.std.specs.declared.vec.Vec.{Vec}
use Rattle.std.specs.declared.alloc.Global.{Global}
use Rattle.redo_script.specs.declared.ast.Stmt.TheFolds.{fold_out-Stmt, map-Stmt}
use Rattle.redo_script.specs.declared.open.Open.{Open as OpenTree}
use Rattle.redo_script.specs.Syntax.{Script, finish, simple, choice, loop}
use Rattle.redo_script.specs.Parsing.{Open, is_empty, with_last}
use Rattle.redo_script.specs.View.{stmt_step, before, script_of, command_of, condition_of, word_of, words_of}
use Rattle.redo_script.specs.declared.ast.Word.{Word as WordTree}
use Rattle.redo_script.specs.declared.item.Item.{Item as ItemTree}
use Rattle.redo_script.specs.Forms.{Item, item_words}
use Rattle.std.proofs.lemmas.List.{map-append, drop-set-lt}
use Rattle.redo_script.specs.inside.Parser.{item_of, open_of, stack_onto}
use Rattle.redo_script.specs.declared.ast.Stmt.TheOpen as stmts
use Rattle.redo_script.specs.declared.ast.Stmt.TheVariants as stmt

-- one statement and what is behind it
abbrev opened : Stmt-F Stmt → Script → Script
opened (stmts.Simple line c) rest = simple line (command_of c) rest
opened (stmts.If line c a b) rest = choice line (condition_of c) (script_of a.items) (script_of b.items) rest
opened (stmts.Loop line n ws b) rest = loop line n (words_of ws.items) (script_of b.items) rest

opened_step : (x : Stmt-F Stmt) (rest : Script) → stmt_step (map-Stmt Stmt (Script → Script) before x) rest ≡ opened x rest
opened_step (stmts.Simple line c) rest = refl
opened_step (stmts.If line c a b) rest = refl
opened_step (stmts.Loop line n ws b) rest = refl

before-opened : (x : Stmt) (rest : Script) → before x rest ≡ opened (out-Stmt x) rest
before-opened x rest = ap (λ (f : Script → Script). f rest) (fold_out-Stmt (Script → Script) stmt_step x) ∙ opened_step (out-Stmt x) rest

opened-last : (x : Stmt-F Stmt) (rest more : Script) → with_last (opened x rest) more ≡ opened x (with_last rest more)
opened-last (stmts.Simple line c) rest more = refl
opened-last (stmts.If line c a b) rest more = refl
opened-last (stmts.Loop line n ws b) rest more = refl

pub script_push : (ss : List Stmt) (s : Stmt) → script_of (ss ++ s ∷ []) ≡ with_last (script_of ss) (before s finish)
script_push [] s = refl
script_push (x ∷ xs) s =
    ap (λ r. before x r) (script_push xs s) ∙ (before-opened x (with_last (script_of xs) (before s finish)) ∙ (sym (opened-last (out-Stmt x) (script_of xs) (before s finish)) ∙ ap (λ r. with_last r (before s finish)) (sym (before-opened x (script_of xs)))))

-- a simple command more
pub simple_push : (ss : List Stmt) (line : ℕ) (c : CommandTree) → script_of (ss ++ stmt.Simple line c ∷ []) ≡ with_last (script_of ss) (simple line (command_of c) finish)
simple_push ss line c =
    let o : before (stmt.Simple line c) finish ≡ simple line (command_of c) finish = before-opened (stmt.Simple line c) finish ∙ ap (λ o. opened o finish) (outs-Simple line c) in
    script_push ss (stmt.Simple line c) ∙ ap (λ r. with_last (script_of ss) r) o

-- an if more
pub if_push : (ss : List Stmt) (line : ℕ) (c : ConditionTree) (a b : Vec Stmt Global) → script_of (ss ++ stmt.If line c a b ∷ []) ≡ with_last (script_of ss) (choice line (condition_of c) (script_of a.items) (script_of b.items) finish)
if_push ss line c a b =
    let o : before (stmt.If line c a b) finish ≡ choice line (condition_of c) (script_of a.items) (script_of b.items) finish = before-opened (stmt.If line c a b) finish ∙ ap (λ o. opened o finish) (outs-If line c a b) in
    script_push ss (stmt.If line c a b) ∙ ap (λ r. with_last (script_of ss) r) o

-- a loop more
pub loop_push : (ss : List Stmt) (line : ℕ) (name : List ℕ) (ws : Vec WordTree Global) (b : Vec Stmt Global) → script_of (ss ++ stmt.Loop line name ws b ∷ []) ≡ with_last (script_of ss) (loop line name (words_of ws.items) (script_of b.items) finish)
loop_push ss line name ws b =
    let o : before (stmt.Loop line name ws b) finish ≡ loop line name (words_of ws.items) (script_of b.items) finish = before-opened (stmt.Loop line name ws b) finish ∙ ap (λ o. opened o finish) (outs-Loop line name ws b) in
    script_push ss (stmt.Loop line name ws b) ∙ ap (λ r. with_last (script_of ss) r) o

pub stack_push : (os : List Open) (xs : List OpenTree) (x : OpenTree) → stack_onto os (xs ++ x ∷ []) ≡ open_of x ∷ stack_onto os xs
stack_push os [] x = refl
stack_push os (y ∷ ys) x = stack_push (open_of y ∷ os) ys x

pub script_empty : (ss : List Stmt) → is_empty (script_of ss) ≡ (length ss == 0)
script_empty [] = refl
script_empty (x ∷ xs) = ap is_empty (before-opened x (script_of xs)) ∙ opened_empty (out-Stmt x) (script_of xs) ∙ sym (not_zero (length xs))
  where
    opened_empty : (x : Stmt-F Stmt) (rest : Script) → is_empty (opened x rest) ≡ false
    opened_empty (stmts.Simple line c) rest = refl
    opened_empty (stmts.If line c a b) rest = refl
    opened_empty (stmts.Loop line n ws b) rest = refl

    not_zero : (n : ℕ) → (suc n == 0) ≡ false
    not_zero n = ne_eqb (suc n) 0 (λ e. absurd (omega arith))

-- an operand more
pub words_push : (ws : List WordTree) (is : List ItemTree) (w : WordTree) (i : ItemTree) → words_of ws ≡ item_words (map item_of is) → word_of w ≡ (item_of i).word → words_of (ws ++ w ∷ []) ≡ item_words (map item_of (is ++ i ∷ []))
words_push ws is w i h e = rw (map-append word_of ws (w ∷ []), map-append item_of is (i ∷ []), map-append {A = Item} (λ x. x.word) (map item_of is) (map item_of (i ∷ [])), h, e) refl

drop_head : {A : Type 0} (xs : List A) (i : ℕ) (x : A) (rest : List A) → drop i xs ≡ x ∷ rest → (take (suc i) xs ≡ take i xs ++ x ∷ []) × (drop (suc i) xs ≡ rest)
drop_head [] zero x rest h = absurd (cc h)
drop_head (y ∷ ys) zero x rest h =
    let e : y ≡ x = cc h in
    let f : ys ≡ rest = cc h in
    (rw e refl, f)
drop_head [] (suc i) x rest h = absurd (cc h)
drop_head (y ∷ ys) (suc i) x rest h = let p = drop_head ys i x rest h in (ap (λ t. y ∷ t) p.0, p.1)

-- an operand more, which leaves another one in its place
pub words_next : (olds nows : List ItemTree) (k : ℕ) (item left : ItemTree) (ws : List WordTree) (w : WordTree) → k < length nows → get_or nows k item ≡ item → word_of w ≡ (item_of item).word → words_of ws ≡ item_words (map item_of (take k olds)) → drop k nows ≡ drop k olds → (words_of (ws ++ w ∷ []) ≡ item_words (map item_of (take (k + 1) olds))) × (drop (k + 1) (set nows k left) ≡ drop (k + 1) olds)
words_next olds nows k item left ws w lt at e h same =
    let here : drop k nows ≡ item ∷ drop (suc k) nows = drop-cons nows k item lt ∙ ap (λ x. x ∷ drop (suc k) nows) at in
    let p = drop_head olds k item (drop (suc k) nows) (sym same ∙ here) in
    rw (add-one k) (words_push ws (take k olds) w item h e ∙ ap (λ t. item_words (map item_of t)) (sym p.0), drop-set-lt (suc k) nows k left (omega arith) ∙ sym p.1)
