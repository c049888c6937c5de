-- A directory that is read level by level: what was listed comes to what the tree has.
use Rattle.std.proofs.Common.{◌≡◌, ◌^◌, ◌-◌, ◌+◌, ℕ, List, [], ◌∷◌, ◌++◌, refl, sym, ap, subst, ◌∙◌, inl, inr, arith, length, map}
use Rattle.std.proofs.Common.{Option, Some, None, append_assoc, append-nil}
use Rattle.std.proofs.lemmas.List.{length-map, map-append}
use Rattle.std.specs.List.{AllByRecursion, AllZip, FoldsTo}
use Rattle.std.specs.Prelude.{IsUtf8, Ok, Err, count_by, is_none, min}
use Rattle.std.specs.declared.io.ErrorKind.{ErrorKind}
use Rattle.std.specs.declared.io.ErrorKind.TheVariants.{OutOfMemory}
use Rattle.redo_path.specs.Names.{child_of}
use Rattle.redo_path.proofs.ApartLemmas.{apart}
use Rattle.redo_path.proofs.PartLemmas.{AllByRecursion-append}
use Rattle.redo_dir.specs.declared.looking.Name.{Name}
use Rattle.redo_dir.specs.declared.work_dir.Seen.{Seen}
use Rattle.redo_dir.specs.declared.work_dir.Seen.TheVariants as seen
use Rattle.redo_dir.specs.Loaded.{ComesTo, HasTextPaths, IsListed, Listing, Looks, LooksLike, MayStand, asked, entries_of}
use Rattle.redo_dir.specs.Loaded.{found_dirs, names_of}
use Rattle.redo_dir.specs.inside.Levels.{EntersNoted, IsBetween, IsLooked, IsLookedAs, IsMark, KeepsPaths, ListsDir}
use Rattle.redo_dir.specs.inside.Levels.{ListsLevel, Notes, Progress, Receives, ReceivesName, paths_of, with_none_noted, with_none_waiting}
use Rattle.redo_dir.specs.inside.Levels.{taken_in, with_noted, with_passed, with_waiting}
use Rattle.redo_dir.proofs.ListingLemmas.{AllZip-append, entries-append, found_dirs-append, names-append, nones-append}
use Rattle.redo_dir.proofs.TextLemmas.{texts_entered, texts_marked}

min-more : (n m : ℕ) → min (min n m + 1) m ≡ min (n + 1) m
min-more n m = omega arith

add-turn : (x a b : ℕ) → x + (a + b) ≡ x + b + a
add-turn x a b = omega arith

add-swap : (x a b : ℕ) → x + b + a ≡ x + a + b
add-swap x a b = omega arith

append_sum : (x a b : ℕ) → x + a + b ≡ x + (a + b)
append_sum x a b = omega arith

add-nothing : (x : ℕ) → x ≡ x + 0
add-nothing x = omega arith

-- names that were listed were noted or passed over
pub record Noted (p q : Progress) (names : List (List ℕ × Option (List ℕ))) : Type 0 where
  pub marks : List (Option (List ℕ))
  pub each : AllZip IsMark names marks
  pub found : q.found ≡ p.found
  pub waits : q.waiting ≡ p.waiting
  pub notes : q.noted ≡ p.noted ++ entries_of marks
  pub counts : (x : ℕ) → p.passed ≡ min x (2 ^ 64 - 1) → q.passed ≡ min (x + count_by is_none marks) (2 ^ 64 - 1)

noted-nothing : (p q : Progress) → p ≡ q → Noted p q []
noted-nothing p q e = record {
  marks = [];
  each = tt;
  found = ap (λ r. r.found) (sym e);
  waits = ap (λ r. r.waiting) (sym e);
  notes = ap (λ r. r.noted) (sym e) ∙ sym (append-nil p.noted);
  counts = λ x h. ap (λ r. r.passed) (sym e) ∙ h ∙ ap (λ n. min n (2 ^ 64 - 1)) (add-nothing x);
}

noted-append : (p m q : Progress) (xs ys : List (List ℕ × Option (List ℕ))) → Noted p m xs → Noted m q ys → Noted p q (xs ++ ys)
noted-append p m q xs ys h k = record {
  marks = h.marks ++ k.marks;
  each = AllZip-append IsMark xs ys h.marks k.marks h.each k.each;
  found = k.found ∙ h.found;
  waits = k.waits ∙ h.waits;
  notes = k.notes ∙ ap (λ ns. ns ++ entries_of k.marks) h.notes ∙ append_assoc p.noted (entries_of h.marks) (entries_of k.marks) ∙ ap (λ ns. p.noted ++ ns) (sym (entries-append h.marks k.marks));
  counts = λ x e. k.counts (x + count_by is_none h.marks) (h.counts x e) ∙ ap (λ n. min n (2 ^ 64 - 1)) (append_sum x (count_by is_none h.marks) (count_by is_none k.marks) ∙ ap (λ n. x + n) (sym (nones-append h.marks k.marks)));
}

-- a name that is passed over
noted-passed : (p q : Progress) (name : List ℕ × Option (List ℕ)) → IsMark name None → q ≡ with_passed p → Noted p q (name ∷ [])
noted-passed p q name mark e = record {
  marks = None ∷ [];
  each = (mark, tt);
  found = ap (λ r. r.found) e;
  waits = ap (λ r. r.waiting) e;
  notes = ap (λ r. r.noted) e ∙ sym (append-nil p.noted);
  counts = λ x h. ap (λ r. r.passed) e ∙ ap (λ n. min (n + 1) (2 ^ 64 - 1)) h ∙ min-more x (2 ^ 64 - 1);
}

-- a name that is noted
noted-kept : (p q : Progress) (dir name : List ℕ) → IsUtf8 name → MayStand dir name → q ≡ with_noted p (child_of dir name) → Noted p q ((dir, Some name) ∷ [])
noted-kept p q dir name u stands e = record {
  marks = Some (child_of dir name) ∷ [];
  each = ((stands, u, refl), tt);
  found = ap (λ r. r.found) e;
  waits = ap (λ r. r.waiting) e;
  notes = ap (λ r. r.noted) e;
  counts = λ x h. ap (λ r. r.passed) e ∙ h ∙ ap (λ n. min n (2 ^ 64 - 1)) (add-nothing x);
}

noted-name : (dir : List ℕ) (name : Option (List ℕ)) (p q : Progress) → Notes dir p name q → Noted p q ((dir, name) ∷ [])
noted-name dir None p q h = noted-passed p q (dir, None) tt h
noted-name dir (Some name) p q h = elim h.1 [
  | inl s ↦ noted-passed p q (dir, Some name) s.0 s.1
  | inr s ↦ noted-kept p q dir name h.0 s.0 s.1
]

-- the names of one directory
noted-dir : (dir : List ℕ) (names : List (Option (List ℕ))) (p q : Progress) → FoldsTo (Notes dir) p names q → Noted p q (asked dir names)
noted-dir dir [] p q f = noted-nothing p q f
noted-dir dir (name ∷ names) p q f = noted-append p f.0 q ((dir, name) ∷ []) (asked dir names) (noted-name dir name p f.0 f.1) (noted-dir dir names f.0 q f.2)

-- the names of a level
pub record Listed (lists : List ℕ → List (Option (List ℕ)) → Type 0) (p q : Progress) (dirs : List (List ℕ)) : Type 0 where
  pub read : List Listing
  pub answered : AllByRecursion (λ l. lists l.0 l.1) read
  pub dirs_are : map (λ l. l.0) read ≡ dirs
  pub noted : Noted p q (names_of read)

pub listed : (lists : List ℕ → List (Option (List ℕ)) → Type 0) (dirs : List (List ℕ)) (p q : Progress) → FoldsTo (ListsDir lists) p dirs q → Listed lists p q dirs
listed lists [] p q f = record { read = []; answered = tt; dirs_are = refl; noted = noted-nothing p q f }
listed lists (dir ∷ dirs) p q f =
    let names = f.1.0 in
    let rest = listed lists dirs f.0 q f.2 in
    record {
      read = (dir, names) ∷ rest.read;
      answered = (f.1.1, rest.answered);
      dirs_are = ap (λ ds. dir ∷ ds) rest.dirs_are;
      noted = noted-append p f.0 q (asked dir names) (names_of rest.read) (noted-dir dir names p f.0 f.1.2) rest.noted;
    }

-- names that were noted, and looked at, were received
pub record Received (looks : Looks) (marks : List (Option (List ℕ))) (p q : Progress) (names : List (List ℕ × Option (List ℕ))) : Type 0 where
  pub became : List (Option (List ℕ × Option ℕ))
  pub each : AllZip (ComesTo (LooksLike looks)) names became
  pub found : q.found ≡ p.found ++ entries_of became
  pub waits : q.waiting ≡ p.waiting ++ found_dirs (entries_of became)
  pub notes : q.noted ≡ p.noted
  pub counts : (x : ℕ) → p.passed ≡ min (x + count_by is_none marks) (2 ^ 64 - 1) → q.passed ≡ min (x + count_by is_none became) (2 ^ 64 - 1)

received-nothing : (looks : Looks) (p q : Progress) → p ≡ q → Received looks [] p q []
received-nothing looks p q e = record {
  became = [];
  each = tt;
  found = ap (λ r. r.found) (sym e) ∙ sym (append-nil p.found);
  waits = ap (λ r. r.waiting) (sym e) ∙ sym (append-nil p.waiting);
  notes = ap (λ r. r.noted) (sym e);
  counts = λ x h. ap (λ r. r.passed) (sym e) ∙ h;
}

received-append : (looks : Looks) (ms ns : List (Option (List ℕ))) (p m q : Progress) (xs ys : List (List ℕ × Option (List ℕ))) → Received looks ms p m xs → Received looks ns m q ys → Received looks (ms ++ ns) p q (xs ++ ys)
received-append looks ms ns p m q xs ys h k =
    record {
      became = h.became ++ k.became;
      each = AllZip-append (ComesTo (LooksLike looks)) xs ys h.became k.became h.each k.each;
      found = k.found ∙ ap (λ es. es ++ entries_of k.became) h.found ∙ append_assoc p.found (entries_of h.became) (entries_of k.became) ∙ ap (λ es. p.found ++ es) (sym (entries-append h.became k.became));
      waits = k.waits ∙ ap (λ ws. ws ++ found_dirs (entries_of k.became)) h.waits ∙ append_assoc p.waiting (found_dirs (entries_of h.became)) (found_dirs (entries_of k.became)) ∙ ap (λ ds. p.waiting ++ ds) (sym (ap found_dirs (entries-append h.became k.became) ∙ found_dirs-append (entries_of h.became) (entries_of k.became)));
      notes = k.notes ∙ h.notes;
      counts = λ x e.
          let a = count_by is_none ms in let b = count_by is_none ns in
          let first = h.counts (x + b) (e ∙ ap (λ n. min n (2 ^ 64 - 1)) (ap (λ n. x + n) (nones-append ms ns) ∙ add-turn x a b)) in
          let c = count_by is_none h.became in
          k.counts (x + c) (first ∙ ap (λ n. min n (2 ^ 64 - 1)) (add-swap x c b)) ∙ ap (λ n. min n (2 ^ 64 - 1)) (append_sum x c (count_by is_none k.became) ∙ ap (λ n. x + n) (sym (nones-append h.became k.became)));
    }

-- a name that was passed over when it was listed
received-passed : (looks : Looks) (p : Progress) (name : List ℕ × Option (List ℕ)) → IsMark name None → Received looks (None ∷ []) p p (name ∷ [])
received-passed looks p (dir, None) mark = record { became = None ∷ []; each = (tt, tt); found = sym (append-nil p.found); waits = sym (append-nil p.waiting); notes = refl; counts = λ x e. e }
received-passed looks p (dir, Some name) mark = record { became = None ∷ []; each = (inl mark, tt); found = sym (append-nil p.found); waits = sym (append-nil p.waiting); notes = refl; counts = λ x e. e }

waits-for : (waiting : List (List ℕ)) (path : List ℕ) (size : Option ℕ) → with_waiting waiting path size ≡ waiting ++ found_dirs ((path, size) ∷ [])
waits-for waiting path None = refl
waits-for waiting path (Some size) = sym (append-nil waiting)

-- a name that was looked at
received-seen : (looks : Looks) (p q : Progress) (dir name path : List ℕ) (size : Option (Option ℕ)) → IsMark (dir, Some name) (Some path) → LooksLike looks path size → Receives p q path size → Received looks (Some path ∷ []) p q ((dir, Some name) ∷ [])
received-seen looks p q dir name path None mark l r = record {
  became = None ∷ [];
  each = (inr (subst (λ at. LooksLike looks at None) mark.2 l), tt);
  found = ap (λ s. s.found) r ∙ sym (append-nil p.found);
  waits = ap (λ s. s.waiting) r ∙ sym (append-nil p.waiting);
  notes = ap (λ s. s.noted) r;
  counts = λ x e. ap (λ s. s.passed) r ∙ ap (λ n. min (n + 1) (2 ^ 64 - 1)) (e ∙ ap (λ n. min n (2 ^ 64 - 1)) (sym (add-nothing x))) ∙ min-more x (2 ^ 64 - 1);
}
received-seen looks p q dir name path (Some size) mark l r = record {
  became = Some (path, size) ∷ [];
  each = ((mark.0, mark.2, l), tt);
  found = ap (λ s. s.found) r;
  waits = ap (λ s. s.waiting) r ∙ waits-for p.waiting path size;
  notes = ap (λ s. s.noted) r;
  counts = λ x e. ap (λ s. s.passed) r ∙ e;
}

pub looked_refused : (looks : Looks) (refuses : List ℕ → ErrorKind → Type 0) (path : List ℕ) (kind : ErrorKind) → refuses path kind → IsLookedAs looks refuses path (Err kind)
looked_refused looks refuses path OutOfMemory h = tt
looked_refused looks refuses path kind h = h

-- the answer of a name that was seen
seen_leads : (looks : Looks) (refuses : List ℕ → ErrorKind → Type 0) (name : Name) (what : Seen) → name.seen ≡ Ok what → IsLooked looks refuses name → LooksLike looks name.path (taken_in what)
seen_leads looks refuses name seen.Directory e h = subst (IsLookedAs looks refuses name.path) e h
seen_leads looks refuses name (seen.File size) e h = subst (IsLookedAs looks refuses name.path) e h
seen_leads looks refuses name seen.Other e h = subst (IsLookedAs looks refuses name.path) e h

received : (looks : Looks) (refuses : List ℕ → ErrorKind → Type 0) (ns : List (List ℕ × Option (List ℕ))) (marks : List (Option (List ℕ))) (names : List Name) (p q : Progress) → AllZip IsMark ns marks → paths_of names ≡ entries_of marks → AllByRecursion (IsLooked looks refuses) names → FoldsTo ReceivesName p names q → Received looks marks p q ns
received looks refuses [] [] [] p q z e l f = received-nothing looks p q f
received looks refuses [] [] (name ∷ names) p q z e l f = apart cc
received looks refuses [] (mark ∷ marks) names p q z e l f = absurd z
received looks refuses (n ∷ ns) [] names p q z e l f = absurd z
received looks refuses (n ∷ ns) (None ∷ marks) names p q z e l f =
    received-append looks (None ∷ []) marks p p q (n ∷ []) ns (received-passed looks p n z.0) (received looks refuses ns marks names p q z.1 e l f)
received looks refuses ((dir, None) ∷ ns) (Some path ∷ marks) names p q z e l f = absurd z.0
received looks refuses ((dir, Some name) ∷ ns) (Some path ∷ marks) [] p q z e l f = apart cc
received looks refuses ((dir, Some text) ∷ ns) (Some path ∷ marks) (name ∷ names) p q z e l f =
    let at : name.path ≡ path = cc in
    let rest : paths_of names ≡ entries_of marks = cc in
    let size = taken_in f.1.0 in
    let led = subst (λ x. LooksLike looks x size) at (seen_leads looks refuses name f.1.0 f.1.1 l.0) in
    let one = subst (λ x. Receives p f.0 x size) at f.1.2 in
    received-append looks (Some path ∷ []) marks p f.0 q ((dir, Some text) ∷ []) ns
    (received-seen looks p f.0 dir text path size z.0 led one)
    (received looks refuses ns marks names f.0 q z.1 rest l.1 f.2)

-- before the first level
pub between_first : (lists : List ℕ → List (Option (List ℕ)) → Type 0) (looks : Looks) (p : Progress) → p ≡ record { found = []; waiting = [] ∷ []; noted = []; passed = 0 } → IsBetween lists looks p
between_first lists looks p e = subst (IsBetween lists looks) (sym e) (record {
  read = [];
  answered = tt;
  became = [];
  each = tt;
  below = refl;
  are = refl;
  counts = refl;
  emptied = refl;
  texts = tt;
  ahead = (([], (refl, refl)), tt);
})

-- behind the last
pub between_last : (lists : List ℕ → List (Option (List ℕ)) → Type 0) (looks : Looks) (p : Progress) → IsBetween lists looks p → p.waiting ≡ [] → IsListed lists looks p.found p.passed × HasTextPaths p.found
between_last lists looks p h e = (
  record {
    read = h.read;
    answered = h.answered;
    became = h.became;
    each = h.each;
    below = sym (append-nil (map (λ l. l.0) h.read)) ∙ ap (λ ws. map (λ l. l.0) h.read ++ ws) (sym e) ∙ h.below;
    are = h.are;
    counts = h.counts;
  },
  h.texts,
)

-- one level more
pub between_next : (lists : List ℕ → List (Option (List ℕ)) → Type 0) (looks : Looks) (refuses : List ℕ → ErrorKind → Type 0) (p q r : Progress) → IsBetween lists looks p → ListsLevel lists p q → EntersNoted looks refuses q r → IsBetween lists looks r
between_next lists looks refuses p q r h l (names, paths, looked, folds) =
    let level = listed lists p.waiting (with_none_waiting p) q l in
    let n = level.noted in
    let noted : q.noted ≡ entries_of n.marks = n.notes ∙ ap (λ ns. ns ++ entries_of n.marks) h.emptied in
    let rc = received looks refuses (names_of level.read) n.marks names (with_none_noted q) r n.each (paths ∙ noted) looked folds in
    let dirs_text = subst (AllByRecursion IsUtf8) (sym level.dirs_are) h.ahead in
    let marked = texts_marked level.read n.marks dirs_text n.each in
    let texts = texts_entered names (with_none_noted q) r (subst HasTextPaths (sym n.found) h.texts) (subst (AllByRecursion IsUtf8) (sym n.waits) tt) (subst (AllByRecursion IsUtf8) (sym (paths ∙ noted)) marked) folds in
    let found : r.found ≡ p.found ++ entries_of rc.became = rc.found ∙ ap (λ es. es ++ entries_of rc.became) n.found in
    record {
      read = h.read ++ level.read;
      answered = AllByRecursion-append (λ x. lists x.0 x.1) h.read level.read h.answered level.answered;
      became = h.became ++ rc.became;
      each = subst (λ ns. AllZip (ComesTo (LooksLike looks)) ns (h.became ++ rc.became)) (sym (names-append h.read level.read)) (AllZip-append (ComesTo (LooksLike looks)) (names_of h.read) (names_of level.read) h.became rc.became h.each rc.each);
      below = ap (λ ds. ds ++ r.waiting) (map-append (λ x. x.0) h.read level.read ∙ ap (λ ds. map (λ x. x.0) h.read ++ ds) level.dirs_are ∙ h.below) ∙ ap (λ ws. [] ∷ found_dirs p.found ++ ws) (rc.waits ∙ ap (λ ws. ws ++ found_dirs (entries_of rc.became)) n.waits) ∙ ap (λ ds. [] ∷ ds) (sym (ap found_dirs found ∙ found_dirs-append p.found (entries_of rc.became)));
      are = entries-append h.became rc.became ∙ ap (λ es. es ++ entries_of rc.became) h.are ∙ sym found;
      counts = rc.counts (count_by is_none h.became) (n.counts (count_by is_none h.became) h.counts) ∙ ap (λ k. min k (2 ^ 64 - 1)) (sym (nones-append h.became rc.became));
      emptied = rc.notes;
      texts = texts.0;
      ahead = texts.1;
    }

-- names that were looked at are as many as before
pub kept_length : (old new : List Name) → KeepsPaths old new → length new ≡ length old
kept_length old new h = sym (length-map new (λ name. name.path)) ∙ ap length h ∙ length-map old (λ name. name.path)
