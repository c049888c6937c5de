-- The number of statements in a script, which falls in a recursion.
use Rattle.std.proofs.Common.{◌≡◌, ℕ, zero, suc, ◌+◌, ◌<◌, ◌≤◌, length, get_or, List, [], ◌∷◌, ap, ◌∙◌, arith}
use Rattle.std.specs.declared.vec.Vec.{Vec}
use Rattle.std.specs.declared.alloc.Global.{Global}
use Rattle.redo_script.specs.declared.ast.Stmt.{Stmt}
use Rattle.redo_script.specs.declared.ast.Stmt.TheOpen.{Stmt-F}
use Rattle.redo_script.specs.declared.ast.Stmt.TheOpen as opens
use Rattle.redo_script.specs.declared.ast.Stmt.TheVariants as stmt
use Rattle.redo_script.specs.declared.ast.Stmt.TheViews.{out-Stmt, outs-If, outs-Loop}
use Rattle.redo_script.specs.declared.ast.Condition.{Condition as ConditionTree}
use Rattle.redo_script.specs.declared.ast.Word.{Word as WordTree}
use Rattle.redo_script.specs.Syntax.{Script, finish, simple, choice, loop}
use Rattle.redo_script.specs.View.{before, script_of, condition_of, words_of}
use Rattle.redo_step.proofs.SliceLemmas.{opened, before-opened}

abbrev pub weight : Script → ℕ
weight finish = 0
weight (simple line c rest) = weight rest + 1
weight (choice line c first second rest) = weight first + weight second + weight rest + 1
weight (loop line name ws body rest) = weight body + weight rest + 1

weight_opened : (x : Stmt-F Stmt) (rest : Script) → weight (opened x rest) ≡ weight (opened x finish) + weight rest
weight_opened (opens.Simple line c) rest = omega arith
weight_opened (opens.If line c a b) rest = omega arith
weight_opened (opens.Loop line name ws body) rest = omega arith

pub weight_before : (x : Stmt) (rest : Script) → weight (before x rest) ≡ weight (before x finish) + weight rest
weight_before x rest = rw (before-opened x rest, before-opened x finish) (weight_opened (out-Stmt x) rest)

pub weight_item : (xs : List Stmt) (n : ℕ) (d : Stmt) → n < length xs → weight (before (get_or xs n d) finish) ≤ weight (script_of xs)
weight_item [] n d h = absurd (omega arith)
weight_item (x ∷ xs) zero d h = let e = weight_before x (script_of xs) in omega arith
weight_item (x ∷ xs) (suc n) d h = let e = weight_before x (script_of xs) in let rest = weight_item xs n d (omega arith) in omega arith

pub weight_if : (x : Stmt) (line : ℕ) (c : ConditionTree) (a b : Vec Stmt Global) → x ≡ stmt.If line c a b → weight (before x finish) ≡ weight (script_of a.items) + weight (script_of b.items) + 1
weight_if x line c a b is =
    let o : before x finish ≡ choice line (condition_of c) (script_of a.items) (script_of b.items) finish = before-opened x finish ∙ rw is (ap (λ o. opened o finish) (outs-If line c a b)) in
    rw o (omega arith)

pub weight_first : (x : Stmt) (line : ℕ) (c : ConditionTree) (a b : Vec Stmt Global) (items : List Stmt) → x ≡ stmt.If line c a b → items ≡ a.items → weight (script_of items) < weight (before x finish)
weight_first x line c a b items is e = let w = weight_if x line c a b is in rw e (omega arith)

pub weight_second : (x : Stmt) (line : ℕ) (c : ConditionTree) (a b : Vec Stmt Global) (items : List Stmt) → x ≡ stmt.If line c a b → items ≡ b.items → weight (script_of items) < weight (before x finish)
weight_second x line c a b items is e = let w = weight_if x line c a b is in rw e (omega arith)

pub weight_body : (x : Stmt) (line : ℕ) (name : List ℕ) (ws : Vec WordTree Global) (body : Vec Stmt Global) (items : List Stmt) → x ≡ stmt.Loop line name ws body → items ≡ body.items → weight (script_of items) < weight (before x finish)
weight_body x line name ws body items is e =
    let o : before x finish ≡ loop line name (words_of ws.items) (script_of body.items) finish = before-opened x finish ∙ rw is (ap (λ o. opened o finish) (outs-Loop line name ws body)) in
    rw (e, o) (omega arith)
