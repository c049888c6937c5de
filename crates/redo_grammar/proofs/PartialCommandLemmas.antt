-- Commands as far as they were read, and what is left of them.
use Rattle.std.proofs.Common.{◌≡◌, ◌⊎◌, ℕ, Bool, true, false, ◌||◌, List, [], ◌∷◌, ◌++◌, Option, Some, None, Ok, Err}
use Rattle.std.proofs.Common.{refl, sym, ap, ◌∙◌, subst, append_assoc, inl, inr}
use Rattle.redo_script.specs.Faults.{◌>>=◌}
use Rattle.std.proofs.lemmas.List.{append-nil}
use Rattle.redo_script.specs.declared.fault.ScriptFault.{ScriptFault}
use Rattle.redo_script.specs.Syntax.{Word, Redirection, Command, Condition}
use Rattle.redo_script.specs.Tokens.{Token, word, redirect}
use Rattle.redo_script.specs.Forms.{Item, command_form, condition_form, knows}
use Rattle.redo_grammar.specs.Grammar.{AtSeparator, IsItems, none_left, one_item, redirected}
use Rattle.redo_script.specs.Parsing.{PartialCommand, begin_command, or_shape, if_known, is_unfinished, with_word}
use Rattle.redo_script.specs.Parsing.{with_redirect, no_redirection, ended_command, ended_condition}
use Rattle.redo_grammar.specs.Refusals.{in_line, HasNoForm, HasNoTest}
use Rattle.redo_script.proofs.NameLemmas.{item}
use Rattle.redo_grammar.proofs.CommandLemmas.{none_some}
use Rattle.redo_grammar.proofs.FoundScriptLemmas.{Takes, TakesOf, state, word_continues, redirect_continues}
use Rattle.redo_grammar.proofs.FoundScriptLemmas.{formed_ok, no_redirection_is, takes_end}
use Rattle.redo_script.specs.declared.fault.Reason.TheVariants as reasons

items_word : {us rest : List Token} {others : List Item} {r : Option Redirection} (k : ℕ) (p : Bool) (w : Word) (ts : List Token) → IsItems us others r rest → us ≡ word k p w ∷ ts → (more : List Item) × (others ≡ item p w ∷ more) × IsItems ts more r rest
items_word k p w ts (none_left a) e = absurd (subst AtSeparator e a)
items_word {us} {rest} {others} {r} k p w ts (one_item {l} {p = p'} {w = w'} {ts = ts'} {items} g) e =
    let same : ts' ≡ ts = cc e in
    let plain : p' ≡ p = cc e in
    let words : w' ≡ w = cc e in
    (items, rw (plain, words) refl, subst (λ (x : List Token). IsItems x items r rest) same g)
items_word k p w ts (redirected a) e = absurd (cc e)

record Redirected (a : Bool) (ts : List Token) (others : List Item) (r : Option Redirection) (rest : List Token) : Type 0 where
  k : ℕ
  p : Bool
  w : Word
  is : ts ≡ word k p w ∷ rest
  ends : AtSeparator rest
  none : others ≡ []
  one : r ≡ Some (record { appends = a; word = w })

items_redirect : {us rest : List Token} {others : List Item} {r : Option Redirection} (k : ℕ) (a : Bool) (ts : List Token) → IsItems us others r rest → us ≡ redirect k a ∷ ts → Redirected a ts others r rest
items_redirect k a ts (none_left h) e = absurd (subst AtSeparator e h)
items_redirect k a ts (one_item g) e = absurd (cc e)
items_redirect k a ts (redirected {k = j} {a = b} {p} {w} {ts = rest} h) e =
    let same : b ≡ a = cc e in
    let behind : word j p w ∷ rest ≡ ts = cc e in
    record { k = j; p = p; w = w; is = sym behind; ends = h; none = refl; one = rw same refl }

items_end : {us rest : List Token} {others : List Item} {r : Option Redirection} → IsItems us others r rest → AtSeparator us → (others ≡ []) × (r ≡ None)
items_end (none_left h) a = (refl, refl)
items_end (one_item g) a = absurd a
items_end (redirected h) a = absurd a

-- what b takes from ts' is left for b'
abbrev Gives : PartialCommand → PartialCommand → List Token → List Token → Type 0
Gives b b' ts ts' = (items : List Item) (r : Option Redirection) (rest : List Token) → TakesOf b ts' items r rest → TakesOf b' ts items r rest

word_gives : (l : ℕ) (n : Item) (its : List Item) (ill : Bool) (aw : Option Bool) (red : Option Redirection) (k : ℕ) (p : Bool) (w : Word) (ts : List Token) → Gives (state l n its ill aw red) (with_word (state l n its ill aw red) (item p w)) ts (word k p w ∷ ts)
word_gives l n its true (Some a) red k p w ts items r rest x = absurd x
word_gives l n its true None (Some red) k p w ts items r rest x = absurd x
word_gives l n its true None None k p w ts items r rest x = absurd x
word_gives l n its false (Some a) red k p w ts items r rest x =
    let same : ts ≡ rest = cc (x.3) in
    let words : w ≡ x.2 = cc (x.3) in
    (subst AtSeparator (sym same) x.4, same, x.5, x.6 ∙ rw words refl)
word_gives l n its false None (Some red) k p w ts items r rest x = absurd x.0
word_gives l n its false None None k p w ts items r rest x =
    let g = items_word k p w ts x.1 refl in
    (g.0, g.2, x.2 ∙ (ap (λ (y : List Item). its ++ y) g.1 ∙ sym (append_assoc its (item p w ∷ []) g.0)))

redirect_gives : (l : ℕ) (n : Item) (its : List Item) (ill : Bool) (aw : Option Bool) (red : Option Redirection) (k : ℕ) (a : Bool) (ts : List Token) → Gives (state l n its ill aw red) (with_redirect (state l n its ill aw red) a) ts (redirect k a ∷ ts)
redirect_gives l n its true (Some b) red k a ts items r rest x = absurd x
redirect_gives l n its true None (Some red) k a ts items r rest x = absurd x
redirect_gives l n its true None None k a ts items r rest x = absurd x
redirect_gives l n its false (Some b) red k a ts items r rest x = absurd (cc (x.3))
redirect_gives l n its false None (Some red) k a ts items r rest x = absurd x.0
redirect_gives l n its false None None k a ts items r rest x =
    let g = items_redirect k a ts x.1 refl in
    (g.k, g.p, g.w, g.is, g.ends, x.2 ∙ (ap (λ (y : List Item). its ++ y) g.none ∙ append-nil its), g.one)

takes_at : (ill : Bool) (aw : Option Bool) (red : Option Redirection) (its : List Item) (ts : List Token) (items : List Item) (r : Option Redirection) (rest : List Token) → Takes ill aw red its ts items r rest → AtSeparator ts → ((ill || elim aw [ Some a ↦ true | None ↦ false ]) ≡ false) × (items ≡ its) × (r ≡ red)
takes_at true aw red its ts items r rest x a = absurd x
takes_at false (Some b) red its ts items r rest x a = absurd (subst AtSeparator x.3 a)
takes_at false None (Some red) its ts items r rest x a = (refl, x.2, x.3)
takes_at false None None its ts items r rest x a =
    let e = items_end x.1 a in
    (refl, x.2 ∙ (ap (λ (y : List Item). its ++ y) e.0 ∙ append-nil its), e.1)

-- a command that was begun behind these tokens, as far as it was read
pub record IsPartial (b : PartialCommand) (ts rest : List Token) (name : Item) (line : ℕ) : Type 0 where
  pub line_is : b.line ≡ line
  pub name_is : b.name ≡ name
  pub takes : (items : List Item) (r : Option Redirection) (end : List Token) → TakesOf b rest items r end → IsItems ts items r end
  pub gives : (items : List Item) (r : Option Redirection) (end : List Token) → IsItems ts items r end → TakesOf b rest items r end

pub begins : (line : ℕ) (name : Item) (ts : List Token) → IsPartial (begin_command line name) ts ts name line
begins line name ts = record { line_is = refl; name_is = refl; takes = λ items r end x. rw x.2 x.1; gives = λ items r end g. (items, g, refl) }

pub goes_word : {b : PartialCommand} {ts rest : List Token} {name : Item} {line : ℕ} (k : ℕ) (p : Bool) (w : Word) → IsPartial b ts (word k p w ∷ rest) name line → IsPartial (with_word b (item p w)) ts rest name line
goes_word {b} {ts} {rest} k p w g =
    let c = word_continues b.line b.name b.items b.is_ill b.awaits b.redirection k p w rest in
    let d = word_gives b.line b.name b.items b.is_ill b.awaits b.redirection k p w rest in
    record {
      line_is = c.line ∙ g.line_is;
      name_is = c.name ∙ g.name_is;
      takes = λ items r end x. g.takes items r end (c.takes items r end x);
      gives = λ items r end x. d items r end (g.gives items r end x);
    }

pub goes_redirect : {b : PartialCommand} {ts rest : List Token} {name : Item} {line : ℕ} (k : ℕ) (a : Bool) → IsPartial b ts (redirect k a ∷ rest) name line → IsPartial (with_redirect b a) ts rest name line
goes_redirect {b} {ts} {rest} k a g =
    let c = redirect_continues b.line b.name b.items b.is_ill b.awaits b.redirection k a rest in
    let d = redirect_gives b.line b.name b.items b.is_ill b.awaits b.redirection k a rest in
    record {
      line_is = c.line ∙ g.line_is;
      name_is = c.name ∙ g.name_is;
      takes = λ items r end x. g.takes items r end (c.takes items r end x);
      gives = λ items r end x. d items r end (g.gives items r end x);
    }

-- the command ends well, and its names are among these or not
pub record EndsWell (names : List (List ℕ)) (are_known : Bool) (ts rest : List Token) (name : Item) (c : Command) : Type 0 where
  pub items : List Item
  pub r : Option Redirection
  pub is : IsItems ts items r rest
  pub form : command_form name items r ≡ Some c
  pub known : knows names items r ≡ are_known

pub ends_well : {names : List (List ℕ)} {b : PartialCommand} {ts rest : List Token} {name : Item} {line : ℕ} (c : Command) → IsPartial b ts rest name line → AtSeparator rest → ended_command names b ≡ Ok c → EndsWell names true ts rest name c
ends_well {names} {b} {ts} {rest} {name} c g a h =
    let form = formed_ok b.line (is_unfinished b) (command_form b.name b.items b.redirection) (knows names b.items b.redirection) c h in
    record {
      items = b.items;
      r = b.redirection;
      is = g.takes b.items b.redirection rest (takes_end b.is_ill b.awaits b.redirection b.items rest a form.0);
      form = subst (λ (x : Item). command_form x b.items b.redirection ≡ Some c) g.name_is form.1;
      known = form.2;
    }

pub record EndsTest (names : List (List ℕ)) (are_known : Bool) (ts rest : List Token) (name : Item) (c : Condition) : Type 0 where
  pub items : List Item
  pub is : IsItems ts items None rest
  pub form : condition_form name items ≡ Some c
  pub known : knows names items None ≡ are_known

pub ends_test : {names : List (List ℕ)} {b : PartialCommand} {ts rest : List Token} {name : Item} {line : ℕ} (c : Condition) → IsPartial b ts rest name line → AtSeparator rest → ended_condition names b ≡ Ok c → EndsTest names true ts rest name c
ends_test {names} {b} {ts} {rest} {name} c g a h =
    let form = formed_ok b.line (is_unfinished b) (no_redirection b.redirection (condition_form b.name b.items)) (knows names b.items b.redirection) c h in
    let n = no_redirection_is b.redirection (condition_form b.name b.items) c form.1 in
    record {
      items = b.items;
      is = subst (λ (x : Option Redirection). IsItems ts b.items x rest) n.0 (g.takes b.items b.redirection rest (takes_end b.is_ill b.awaits b.redirection b.items rest a form.0));
      form = subst (λ (x : Item). condition_form x b.items ≡ Some c) g.name_is n.1;
      known = subst (λ (x : Option Redirection). knows names b.items x ≡ true) n.0 form.2;
    }

-- what ends ill has no form, or a name in it isn't bound
pub formed_err : {A : Type 0} (l : ℕ) (ill : Bool) (o : Option A) (known : Bool) (f : ScriptFault) → (or_shape l ill o >>= if_known l known) ≡ Err f → ((f ≡ in_line l reasons.Shape) × (ill ≡ false → (x : A) → o ≡ Some x → ⊥)) ⊎ ((f ≡ in_line l reasons.Unsupported) × (ill ≡ false) × ((x : A) × (o ≡ Some x)) × (known ≡ false))
formed_err l true o known f h = inl (cc h, λ e x n. cc e)
formed_err l false None known f h = inl (cc h, λ e x n. none_some n)
formed_err l false (Some y) true f h = absurd (cc h)
formed_err l false (Some y) false f h = inr (cc h, refl, (y, refl), refl)

pub ends_ill : {names : List (List ℕ)} {b : PartialCommand} {ts rest : List Token} {name : Item} {line : ℕ} (f : ScriptFault) → IsPartial b ts rest name line → AtSeparator rest → ended_command names b ≡ Err f → ((f ≡ in_line line reasons.Shape) × HasNoForm name ts) ⊎ ((f ≡ in_line line reasons.Unsupported) × ((c : Command) × EndsWell names false ts rest name c))
ends_ill {names} {b} {ts} {rest} {name} {line} f g a h = elim (formed_err b.line (is_unfinished b) (command_form b.name b.items b.redirection) (knows names b.items b.redirection) f h) [
  | inl i ↦ inl (
    rw g.line_is at i.0,
    λ items r end c is form.
        let t = takes_at b.is_ill b.awaits b.redirection b.items rest items r end (g.gives items r end is) a in
        i.1 t.0 c (rw (g.name_is, sym t.1, sym t.2) form),
  )
  | inr u ↦ inr (
    rw g.line_is at u.0,
    (
      u.2.0,
      record {
        items = b.items;
        r = b.redirection;
        is = g.takes b.items b.redirection rest (takes_end b.is_ill b.awaits b.redirection b.items rest a u.1);
        form = subst (λ (x : Item). command_form x b.items b.redirection ≡ Some u.2.0) g.name_is u.2.1;
        known = u.3;
      },
    ),
  )
]

pub test_ill : {names : List (List ℕ)} {b : PartialCommand} {ts rest : List Token} {name : Item} {line : ℕ} (f : ScriptFault) → IsPartial b ts rest name line → AtSeparator rest → ended_condition names b ≡ Err f → ((f ≡ in_line line reasons.Shape) × HasNoTest name ts) ⊎ ((f ≡ in_line line reasons.Unsupported) × ((c : Condition) × EndsTest names false ts rest name c))
test_ill {names} {b} {ts} {rest} {name} {line} f g a h = elim (formed_err b.line (is_unfinished b) (no_redirection b.redirection (condition_form b.name b.items)) (knows names b.items b.redirection) f h) [
  | inl i ↦ inl (
    rw g.line_is at i.0,
    λ items end c is form.
        let t = takes_at b.is_ill b.awaits b.redirection b.items rest items None end (g.gives items None end is) a in
        i.1 t.0 c (rw (sym t.2, g.name_is, sym t.1) form),
  )
  | inr u ↦
      let n = no_redirection_is b.redirection (condition_form b.name b.items) u.2.0 u.2.1 in
      inr (
        rw g.line_is at u.0,
        (
          u.2.0,
          record {
            items = b.items;
            is = subst (λ (x : Option Redirection). IsItems ts b.items x rest) n.0 (g.takes b.items b.redirection rest (takes_end b.is_ill b.awaits b.redirection b.items rest a u.1));
            form = subst (λ (x : Item). condition_form x b.items ≡ Some u.2.0) g.name_is n.1;
            known = subst (λ (x : Option Redirection). knows names b.items x ≡ false) n.0 u.3;
          },
        ),
      )
]
