-- Names of commands and of conditions.
use Rattle.std.proofs.Common.{◌≡◌, ℕ, Bool, true, false, List, [], ◌∷◌, Option, Some, None, refl, sym, ◌∙◌, map, inl}
use Rattle.std.proofs.Common.{inr}
use Rattle.std.specs.Prelude.{codes}
use Rattle.std.proofs.lemmas.Bool.{cases_Bool, and_parts, or_parts, both_ways}
use Rattle.redo_script.specs.Syntax.{byte, Word, Redirection, Command, always, Condition}
use Rattle.redo_script.specs.Forms.{Item, spells, is_named, lone, option_condition, command_form, condition_form}
use Rattle.redo_script.specs.Parsing.{is_one_of, commands, conditions}
use Rattle.redo_script.proofs.NameLemmas.{item, no_exit, spells_is}

-- a test of items holds of one that has this name, if it holds of the name
pub by_name : (P : Item → Bool) (name : List ℕ) (p : Bool) (w : Word) → is_named name (item p w) ≡ true → P (item p w) ≡ P (item true (map byte name))
by_name P name p w e =
    let q = and_parts p (spells w name) e in
    rw (q.0, spells_is w name q.1) refl

-- a command's name is no other word
pub not_named : (names : List (List ℕ)) (name : List ℕ) (p : Bool) (w : Word) → is_one_of names (item true (map byte name)) ≡ false → is_one_of names (item p w) ≡ true → is_named name (item p w) ≡ false
not_named names name p w out here = elim (cases_Bool (is_named name (item p w))) [
  | inl e ↦ absurd (both_ways (is_one_of names (item p w)) (by_name (is_one_of names) name p w e ∙ out) here)
  | inr e ↦ e
]

pub none_some : {A C : Type 0} {x : A} → None ≡ Some x → C
none_some {A} {C} {x} h = absurd (cc h)

pub command_named : (n : Item) (items : List Item) (r : Option Redirection) (c : Command) → command_form n items r ≡ Some c → is_one_of commands n ≡ true
command_named n items r c h = elim (cases_Bool (is_one_of commands n)) [
  | inl e ↦ e
  | inr e ↦
      let p1 = or_parts (is_named (codes "echo") n) _ e in
      let p2 = or_parts (is_named (codes "printf") n) _ p1.1 in
      let p3 = or_parts (is_named (codes "cat") n) _ p2.1 in
      let p4 = or_parts (is_named (codes "test") n) _ p3.1 in
      let p5 = or_parts (is_named (codes "redo-ifchange") n) _ p4.1 in
      let p6 = or_parts (is_named (codes "redo-ifcreate") n) _ p5.1 in
      let p7 = or_parts (is_named (codes "redo-always") n) _ p6.1 in
      let p8 = or_parts (is_named (codes "true") n) _ p7.1 in
      let p9 = or_parts (is_named (codes "false") n) _ p8.1 in
      let p10 = or_parts (is_named (codes "exit") n) _ p9.1 in
      let none : command_form n items r ≡ None = no_command r p1.0 p2.0 p3.0 p4.0 p5.0 p6.0 p7.0 p8.0 p9.0 p10.0 in
      none_some (sym none ∙ h)
]
  where
    no_command : (r : Option Redirection) → is_named (codes "echo") n ≡ false → is_named (codes "printf") n ≡ false → is_named (codes "cat") n ≡ false → is_named (codes "test") n ≡ false → is_named (codes "redo-ifchange") n ≡ false → is_named (codes "redo-ifcreate") n ≡ false → is_named (codes "redo-always") n ≡ false → is_named (codes "true") n ≡ false → is_named (codes "false") n ≡ false → is_named (codes "exit") n ≡ false → command_form n items r ≡ None
    no_command None e1 e2 e3 e4 e5 e6 e7 e8 e9 e10 = rw (e1, e2, e3, e4, e5, e6, e7, e8, e9, e10) refl
    no_command (Some x) e1 e2 e3 e4 e5 e6 e7 e8 e9 e10 = rw (e1, e2, e3) refl

no_always : (items : List Item) → option_condition (lone always items) ≡ None
no_always [] = refl
no_always (i ∷ items) = refl

pub no_condition : (n : Item) (items : List Item) → is_named (codes "test") n ≡ false → is_named (codes "true") n ≡ false → is_named (codes "false") n ≡ false → condition_form n items ≡ None
no_condition n items e1 e2 e3 = elim (cases_Bool (is_named (codes "redo-ifchange") n)) [
  | inl e ↦ rw (e1, e) refl
  | inr e4 ↦ elim (cases_Bool (is_named (codes "redo-ifcreate") n)) [
    | inl e ↦ rw (e1, e4, e) refl
    | inr e5 ↦ elim (cases_Bool (is_named (codes "redo-always") n)) [
      | inl e ↦ rw (e1, e4, e5, e) (no_always items)
      | inr e6 ↦ elim (cases_Bool (is_named (codes "exit") n)) [
        | inl e ↦ rw (e1, e4, e5, e6, e2, e3, e) (no_exit items)
        | inr e ↦ rw (e1, e4, e5, e6, e2, e3, e) refl
      ]
    ]
  ]
]

pub condition_named : (n : Item) (items : List Item) (c : Condition) → condition_form n items ≡ Some c → is_one_of conditions n ≡ true
condition_named n items c h = elim (cases_Bool (is_one_of conditions n)) [
  | inl e ↦ e
  | inr e ↦
      let p1 = or_parts (is_named (codes "test") n) _ e in
      let p2 = or_parts (is_named (codes "true") n) _ p1.1 in
      let p3 = or_parts (is_named (codes "false") n) _ p2.1 in
      none_some (sym (no_condition n items p1.0 p2.0 p3.0) ∙ h)
]
