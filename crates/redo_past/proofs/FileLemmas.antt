-- A file that is put at its place among others.
use Rattle.std.proofs.Common.{◌≡◌, ◌≢◌, ℕ, zero, suc, ◌<◌, ◌≤◌, List, [], ◌∷◌, refl, sym, ap, subst, ◌∙◌}
use Rattle.std.proofs.Common.{length, map, arith, set, slice_index_or}
use Rattle.std.specs.Cmp.Lexicographic.{nat_list_cmp_total, slice_cmp}
use Rattle.std.specs.List.{AllByRecursion, insert, remove}
use Rattle.std.specs.List.Sorted.{IsStrictlySortedBy}
use Rattle.std.specs.Ordering.{nat_cmp, ordering_reverse}
use Rattle.std.specs.declared.cmp.Ordering.TheVariants.{Less, Equal, Greater}
use Rattle.redo_past.specs.NewBook.{with_file}
use Rattle.redo_past.proofs.OrderLemmas.{never_before_itself, order, same_order}
use Rattle.redo_past.proofs.RowLemmas.{at-all}

abbrev pub File : Type 0
File = List ℕ × List ℕ

turned : (p q : List ℕ) → order p q ≡ Less → order q p ≡ Greater
turned p q e = nat_list_cmp_total.antisymm q p ∙ ap ordering_reverse e

-- where none has its path
pub put-new : (files : List File) (at : ℕ) (path bytes : List ℕ) → at ≤ length files
    → ((k : ℕ) (d : File) → k < at → order (slice_index_or files k d).0 path ≡ Less)
    → ((k : ℕ) (d : File) → at ≤ k → k < length files → order (slice_index_or files k d).0 path ≡ Greater)
    → insert files at (path, bytes) ≡ with_file files path bytes
put-new [] zero path bytes l before behind = refl
put-new [] (suc at) path bytes l before behind = absurd (omega arith)
put-new (f ∷ files) zero path bytes l before behind =
    let less : order path f.0 ≡ Less = nat_list_cmp_total.antisymm path f.0 ∙ ap ordering_reverse (behind zero f (omega arith) (omega arith)) in
    rw less refl
put-new (f ∷ files) (suc at) path bytes l before behind =
    let greater : order path f.0 ≡ Greater = turned f.0 path (before zero f (omega arith)) in
    rw greater (ap (λ fs. f ∷ fs) (put-new files at path bytes (omega (arith, l)) (λ k d h. before (suc k) d (omega (arith, h))) (λ k d h b. behind (suc k) d (omega (arith, h)) (omega (arith, b)))))

-- where one has its path
pub put-old : (files : List File) (at : ℕ) (path bytes : List ℕ) (d : File) → IsStrictlySortedBy (slice_cmp nat_cmp) (map (λ f. f.0) files) → at < length files → order (slice_index_or files at d).0 path ≡ Equal → set files at (path, bytes) ≡ with_file files path bytes
unfolding IsStrictlySortedBy
put-old [] at path bytes d s l e = absurd (omega arith)
put-old (f ∷ files) zero path bytes d s l e =
    let equal : order path f.0 ≡ Equal = nat_list_cmp_total.antisymm path f.0 ∙ ap ordering_reverse e in
    rw equal (ap (λ (p : List ℕ). (p, bytes) ∷ files) (sym (same_order f.0 path e)))
put-old (f ∷ files) (suc at) path bytes d s l e =
    let it = slice_index_or files at d in
    let less : order f.0 path ≡ Less = subst (λ u. order f.0 u ≡ Less) (same_order it.0 path e) (at-all (λ (g : File). g.0) f.0 files at d s.0 (omega (arith, l))) in
    rw (turned f.0 path less) (ap (λ fs. f ∷ fs) (put-old files at path bytes d s.1 (omega (arith, l)) e))

-- ---- no other file has the path

less-unlike : (p q : List ℕ) → order p q ≡ Less → p ≢ q
less-unlike p q h e = never_before_itself q (subst (λ u. order u q ≡ Less) e h)

greater-unlike : (p q : List ℕ) → order p q ≡ Greater → p ≢ q
greater-unlike p q h e = less-unlike q p (nat_list_cmp_total.antisymm q p ∙ ap ordering_reverse h) (sym e)

-- where none had it
pub none-new : (files : List File) (at : ℕ) (path : List ℕ) → at ≤ length files
    → ((k : ℕ) (d : File) → k < at → order (slice_index_or files k d).0 path ≡ Less)
    → ((k : ℕ) (d : File) → at ≤ k → k < length files → order (slice_index_or files k d).0 path ≡ Greater)
    → AllByRecursion (λ f. f.0 ≢ path) files
none-new [] at path l before behind = tt
none-new (f ∷ files) zero path l before behind = (
  greater-unlike f.0 path (behind zero f (omega arith) (omega arith)),
  none-new files zero path (omega arith) (λ k d h. absurd (omega (arith, h))) (λ k d h b. behind (suc k) d (omega (arith, h)) (omega (arith, b))),
)
none-new (f ∷ files) (suc at) path l before behind = (
  less-unlike f.0 path (before zero f (omega arith)),
  none-new files at path (omega (arith, l)) (λ k d h. before (suc k) d (omega (arith, h))) (λ k d h b. behind (suc k) d (omega (arith, h)) (omega (arith, b))),
)

behind-unlike : (p : List ℕ) (files : List File) → AllByRecursion (λ q. order p q ≡ Less) (map (λ f. f.0) files) → AllByRecursion (λ f. f.0 ≢ p) files
behind-unlike p [] h = tt
behind-unlike p (f ∷ files) h = (λ e. less-unlike p f.0 h.0 (sym e), behind-unlike p files h.1)

less-than-later : (f : File) (files : List File) (at : ℕ) (path : List ℕ) (d : File) → AllByRecursion (λ q. order f.0 q ≡ Less) (map (λ f. f.0) files) → at < length files → order (slice_index_or files at d).0 path ≡ Equal → order f.0 path ≡ Less
less-than-later f files at path d s l e =
    subst (λ u. order f.0 u ≡ Less) (same_order (slice_index_or files at d).0 path e) (at-all (λ (g : File). g.0) f.0 files at d s l)

-- where the one that has it is taken out
pub none-removed : (files : List File) (at : ℕ) (path : List ℕ) (d : File) → IsStrictlySortedBy (slice_cmp nat_cmp) (map (λ f. f.0) files) → at < length files → order (slice_index_or files at d).0 path ≡ Equal → AllByRecursion (λ f. f.0 ≢ path) (remove files at)
unfolding IsStrictlySortedBy
none-removed [] at path d s l e = absurd (omega arith)
none-removed (f ∷ files) zero path d s l e = subst (λ p. AllByRecursion (λ (g : File). g.0 ≢ p) files) (same_order f.0 path e) (behind-unlike f.0 files s.0)
none-removed (f ∷ files) (suc at) path d s l e =
    (less-unlike f.0 path (less-than-later f files at path d s.0 (omega (arith, l)) e), none-removed files at path d s.1 (omega (arith, l)) e)

-- a file that stands before all others
put-first : (p bytes : List ℕ) (files : List File) → AllByRecursion (λ q. order p q ≡ Less) (map (λ f. f.0) files) → with_file files p bytes ≡ (p, bytes) ∷ files
put-first p bytes [] h = refl
put-first p bytes (f ∷ files) h = rw h.0 refl

-- it is put there as where it is replaced
pub put-removed : (files : List File) (at : ℕ) (path bytes : List ℕ) (d : File) → IsStrictlySortedBy (slice_cmp nat_cmp) (map (λ f. f.0) files) → at < length files → order (slice_index_or files at d).0 path ≡ Equal → with_file (remove files at) path bytes ≡ with_file files path bytes
unfolding IsStrictlySortedBy
put-removed [] at path bytes d s l e = absurd (omega arith)
put-removed (f ∷ files) zero path bytes d s l e =
    let same : f.0 ≡ path = same_order f.0 path e in
    let equal : order path f.0 ≡ Equal = nat_list_cmp_total.antisymm path f.0 ∙ ap ordering_reverse e in
    let first : with_file files path bytes ≡ (path, bytes) ∷ files = subst (λ p. with_file files p bytes ≡ (p, bytes) ∷ files) same (put-first f.0 bytes files s.0) in
    rw equal (first ∙ ap (λ (p : List ℕ). (p, bytes) ∷ files) (sym same))
put-removed (f ∷ files) (suc at) path bytes d s l e =
    rw (turned f.0 path (less-than-later f files at path d s.0 (omega (arith, l)) e)) (ap (λ fs. f ∷ fs) (put-removed files at path bytes d s.1 (omega (arith, l)) e))

insert-removed : (files : List File) (at : ℕ) (file : File) → at < length files → insert (remove files at) at file ≡ set files at file
insert-removed [] at file l = absurd (omega arith)
insert-removed (f ∷ files) zero file l = refl
insert-removed (f ∷ files) (suc at) file l = ap (λ fs. f ∷ fs) (insert-removed files at file (omega (arith, l)))

pub put-back : (files : List File) (at : ℕ) (path bytes : List ℕ) (d : File) → IsStrictlySortedBy (slice_cmp nat_cmp) (map (λ f. f.0) files) → at < length files → order (slice_index_or files at d).0 path ≡ Equal → insert (remove files at) at (path, bytes) ≡ with_file (remove files at) path bytes
put-back files at path bytes d s l e =
    insert-removed files at (path, bytes) l ∙ put-old files at path bytes d s l e ∙ sym (put-removed files at path bytes d s l e)
