use Rattle.std.proofs.Common.{◌≡◌, ◌∙◌, ◌++◌, ◌∷◌, [], ℕ, Bool, ap, subst, sym}
use Rattle.redo_record.specs.declared.deps.DepKind.TheVariants.{Change, Create, Always}
use Rattle.redo_record.specs.Entries.{same_kind, with_entry}
use Rattle.redo_record.specs.inside.Kinds.{AreByKind}
use Rattle.redo_record.proofs.KindLemmas.{new-entry, old-entry, other-set, set-with}
use Rattle.redo_record.proofs.deps.Many.put.Goals as goal
use Rattle.redo_record.proofs.deps.Many.put.Goals.{in-Change+in_ok-insert-in-Change, in-Create+in_ok-insert-in-Create}
use Rattle.redo_record.proofs.deps.Many.put.Goals.{in-Always+in_ok-new-in-Always}

-- the entry is new

pub invariant_of-self-then-new : goal.invariant_of-self-then-new
invariant_of-self-then-new c = elim c.match-dep.branch [
  | in-Change+in_ok-insert-in-Change w ↦
      let es = c.self.inside.entries.items in
      let d = c.args.dep in
      let p = c.in_ok-path.path in
      let path = c.in_ok-path.ensures.cases in
      let items : c.push_reserved.new.self.items ≡ es ++ d ∷ [] = c.push_reserved.ensures.items ∙ ap (λ s. s.entries.items ++ d ∷ []) w.self-inside-is ∙ ap (λ xs. xs ++ d ∷ []) c.reserve.ensures.items in
      let is = sym (ap (λ (q : ℕ × Bool). q.1) w.new-is) ∙ c.if-new.true in
      subst (λ s. AreByKind c.push_reserved.new.self.items s.changed s.created s.always) (sym w.self-inside-is)
      (subst (λ xs. AreByKind xs w.insert.new.self c.self.inside.created c.self.inside.always) (sym items)
      (record {
        changes = set-with es d Change c.self.inside.changed w.insert.new.self p w.in_ok-insert-in-Change.new c.self.invariant.changes w.in-Change.is path w.in_ok-insert-in-Change.ensures.paths w.in_ok-insert-in-Change.ensures.added is;
        creates = other-set es d Create c.self.inside.created c.self.invariant.creates (ap (same_kind Create) w.in-Change.is);
        in_any_case = other-set es d Always c.self.inside.always c.self.invariant.in_any_case (ap (same_kind Always) w.in-Change.is);
      }))
  | in-Create+in_ok-insert-in-Create w ↦
      let es = c.self.inside.entries.items in
      let d = c.args.dep in
      let p = c.in_ok-path.path in
      let path = c.in_ok-path.ensures.cases in
      let items : c.push_reserved.new.self.items ≡ es ++ d ∷ [] = c.push_reserved.ensures.items ∙ ap (λ s. s.entries.items ++ d ∷ []) w.self-inside-is ∙ ap (λ xs. xs ++ d ∷ []) c.reserve.ensures.items in
      let is = sym (ap (λ (q : ℕ × Bool). q.1) w.new-is) ∙ c.if-new.true in
      subst (λ s. AreByKind c.push_reserved.new.self.items s.changed s.created s.always) (sym w.self-inside-is)
      (subst (λ xs. AreByKind xs c.self.inside.changed w.insert-in-Create.new.self c.self.inside.always) (sym items)
      (record {
        changes = other-set es d Change c.self.inside.changed c.self.invariant.changes (ap (same_kind Change) w.in-Create.is);
        creates = set-with es d Create c.self.inside.created w.insert-in-Create.new.self p w.in_ok-insert-in-Create.new c.self.invariant.creates w.in-Create.is path w.in_ok-insert-in-Create.ensures.paths w.in_ok-insert-in-Create.ensures.added is;
        in_any_case = other-set es d Always c.self.inside.always c.self.invariant.in_any_case (ap (same_kind Always) w.in-Create.is);
      }))
  | in-Always+in_ok-new-in-Always w ↦
      let es = c.self.inside.entries.items in
      let d = c.args.dep in
      let p = c.in_ok-path.path in
      let path = c.in_ok-path.ensures.cases in
      let items : c.push_reserved.new.self.items ≡ es ++ d ∷ [] = c.push_reserved.ensures.items ∙ ap (λ s. s.entries.items ++ d ∷ []) w.self-inside-is ∙ ap (λ xs. xs ++ d ∷ []) c.reserve.ensures.items in
      let is = sym (ap (λ (q : ℕ × Bool). q.1) w.new-is) ∙ c.if-new.true in
      subst (λ s. AreByKind c.push_reserved.new.self.items s.changed s.created s.always) (sym w.self-inside-is)
      (subst (λ xs. AreByKind xs c.self.inside.changed c.self.inside.created w.insert-in-Always.new.self) (sym items)
      (record {
        changes = other-set es d Change c.self.inside.changed c.self.invariant.changes (ap (same_kind Change) w.in-Always.is);
        creates = other-set es d Create c.self.inside.created c.self.invariant.creates (ap (same_kind Create) w.in-Always.is);
        in_any_case = set-with es d Always c.self.inside.always w.insert-in-Always.new.self p w.in_ok-new-in-Always.new c.self.invariant.in_any_case w.in-Always.is path w.in_ok-new-in-Always.ensures.paths w.in_ok-new-in-Always.ensures.added is;
      }))
]

pub returns-then-new-clause-ok : goal.returns-then-new-clause-ok
returns-then-new-clause-ok c = elim c.match-dep.branch [
  | in-Change+in_ok-insert-in-Change w ↦
      let es = c.self.inside.entries.items in
      let d = c.args.dep in
      let p = c.in_ok-path.path in
      let path = c.in_ok-path.ensures.cases in
      let items : c.push_reserved.new.self.items ≡ es ++ d ∷ [] = c.push_reserved.ensures.items ∙ ap (λ s. s.entries.items ++ d ∷ []) w.self-inside-is ∙ ap (λ xs. xs ++ d ∷ []) c.reserve.ensures.items in
      let is = sym (ap (λ (q : ℕ × Bool). q.1) w.new-is) ∙ c.if-new.true in
      items ∙ sym (new-entry es d Change c.self.inside.changed w.insert.new.self p w.in_ok-insert-in-Change.new c.self.invariant.changes w.in-Change.is path w.in_ok-insert-in-Change.ensures.paths w.in_ok-insert-in-Change.ensures.added is) ∙ ap (λ xs. with_entry xs d.kind d.path) c.self.view_is
  | in-Create+in_ok-insert-in-Create w ↦
      let es = c.self.inside.entries.items in
      let d = c.args.dep in
      let p = c.in_ok-path.path in
      let path = c.in_ok-path.ensures.cases in
      let items : c.push_reserved.new.self.items ≡ es ++ d ∷ [] = c.push_reserved.ensures.items ∙ ap (λ s. s.entries.items ++ d ∷ []) w.self-inside-is ∙ ap (λ xs. xs ++ d ∷ []) c.reserve.ensures.items in
      let is = sym (ap (λ (q : ℕ × Bool). q.1) w.new-is) ∙ c.if-new.true in
      items ∙ sym (new-entry es d Create c.self.inside.created w.insert-in-Create.new.self p w.in_ok-insert-in-Create.new c.self.invariant.creates w.in-Create.is path w.in_ok-insert-in-Create.ensures.paths w.in_ok-insert-in-Create.ensures.added is) ∙ ap (λ xs. with_entry xs d.kind d.path) c.self.view_is
  | in-Always+in_ok-new-in-Always w ↦
      let es = c.self.inside.entries.items in
      let d = c.args.dep in
      let p = c.in_ok-path.path in
      let path = c.in_ok-path.ensures.cases in
      let items : c.push_reserved.new.self.items ≡ es ++ d ∷ [] = c.push_reserved.ensures.items ∙ ap (λ s. s.entries.items ++ d ∷ []) w.self-inside-is ∙ ap (λ xs. xs ++ d ∷ []) c.reserve.ensures.items in
      let is = sym (ap (λ (q : ℕ × Bool). q.1) w.new-is) ∙ c.if-new.true in
      items ∙ sym (new-entry es d Always c.self.inside.always w.insert-in-Always.new.self p w.in_ok-new-in-Always.new c.self.invariant.in_any_case w.in-Always.is path w.in_ok-new-in-Always.ensures.paths w.in_ok-new-in-Always.ensures.added is) ∙ ap (λ xs. with_entry xs d.kind d.path) c.self.view_is
]

-- the entry was there

pub returns-else-new-clause-ok : goal.returns-else-new-clause-ok
returns-else-new-clause-ok c = elim c.match-dep.branch [
  | in-Change+in_ok-insert-in-Change w ↦
      let es = c.self.inside.entries.items in
      let d = c.args.dep in
      let p = c.in_ok-path.path in
      let path = c.in_ok-path.ensures.cases in
      let is = sym (ap (λ (q : ℕ × Bool). q.1) w.new-is) ∙ c.if-new.false in
      ap (λ s. s.entries.items) w.self-inside-is ∙ c.reserve.ensures.items ∙ sym (old-entry es d Change c.self.inside.changed w.insert.new.self p w.in_ok-insert-in-Change.new c.self.invariant.changes w.in-Change.is path w.in_ok-insert-in-Change.ensures.paths w.in_ok-insert-in-Change.ensures.added is) ∙ ap (λ xs. with_entry xs d.kind d.path) c.self.view_is
  | in-Create+in_ok-insert-in-Create w ↦
      let es = c.self.inside.entries.items in
      let d = c.args.dep in
      let p = c.in_ok-path.path in
      let path = c.in_ok-path.ensures.cases in
      let is = sym (ap (λ (q : ℕ × Bool). q.1) w.new-is) ∙ c.if-new.false in
      ap (λ s. s.entries.items) w.self-inside-is ∙ c.reserve.ensures.items ∙ sym (old-entry es d Create c.self.inside.created w.insert-in-Create.new.self p w.in_ok-insert-in-Create.new c.self.invariant.creates w.in-Create.is path w.in_ok-insert-in-Create.ensures.paths w.in_ok-insert-in-Create.ensures.added is) ∙ ap (λ xs. with_entry xs d.kind d.path) c.self.view_is
  | in-Always+in_ok-new-in-Always w ↦
      let es = c.self.inside.entries.items in
      let d = c.args.dep in
      let p = c.in_ok-path.path in
      let path = c.in_ok-path.ensures.cases in
      let is = sym (ap (λ (q : ℕ × Bool). q.1) w.new-is) ∙ c.if-new.false in
      ap (λ s. s.entries.items) w.self-inside-is ∙ c.reserve.ensures.items ∙ sym (old-entry es d Always c.self.inside.always w.insert-in-Always.new.self p w.in_ok-new-in-Always.new c.self.invariant.in_any_case w.in-Always.is path w.in_ok-new-in-Always.ensures.paths w.in_ok-new-in-Always.ensures.added is) ∙ ap (λ xs. with_entry xs d.kind d.path) c.self.view_is
]
