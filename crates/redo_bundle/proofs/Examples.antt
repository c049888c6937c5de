-- Worked examples of the definitions, each by computing.
use Rattle.std.proofs.Common.{◌≡◌, [], ◌∷◌, ◌++◌, refl, Some, None}
use Rattle.std.specs.Prelude.{Ok, Err, codes, replicate}
use Rattle.std.specs.Fmt.{digits}
use Rattle.redo_path.specs.declared.PathFault.TheVariants.{Empty}
use Rattle.redo_bundle.specs.declared.faults.BundleFault.TheVariants.{Line, Path, Tree as TreeAt, Truncated}
use Rattle.redo_tree.specs.declared.faults.TreeFault.TheVariants.{NoDirectory, IsFile, Twice, IsDirectory}
use Rattle.redo_tree.specs.Tree.{Directory, File, top, added}
use Rattle.redo_bundle.specs.Bundle.{fault_at, bundle_of}

adds : added top (codes "a") Directory ≡ Ok (([], Directory) ∷ (codes "a", Directory) ∷ [])
adds = refl

adds_twice : added (([], Directory) ∷ (codes "a", Directory) ∷ []) (codes "a") Directory ≡ Err Twice
adds_twice = refl

no_directory : added top (codes "d/a") (File []) ≡ Err NoDirectory
no_directory = refl

below_file : added (([], Directory) ∷ (codes "a", File []) ∷ []) (codes "a/b") Directory ≡ Err IsFile
below_file = refl

file_at_the_top : added top [] (File []) ≡ Err IsDirectory
file_at_the_top = refl

truncated : fault_at 1 top (codes "file 8 hello.do\necho") ≡ Some Truncated
unfolding digits
truncated = refl

whole : fault_at 1 top (codes "file 8 hello.do\necho hi\n\nend\n") ≡ None
unfolding digits
whole = refl

at_the_end : fault_at 1 top (codes "end\n") ≡ None
at_the_end = refl

behind_the_end : fault_at 1 top (codes "end\nx") ≡ Some (Line 2)
behind_the_end = refl

same_directory : fault_at 2 (([], Directory) ∷ (codes "a", Directory) ∷ []) (codes "dir a\nend\n") ≡ Some (TreeAt 2 Twice)
same_directory = refl

leading_zero : fault_at 1 top (codes "file 08 a\n") ≡ Some (Line 1)
unfolding digits
leading_zero = refl

no_newline_behind : fault_at 1 top (codes "file 1 a\nxyend\n") ≡ Some (Line 1)
unfolding digits
no_newline_behind = refl

too_large : fault_at 1 top (codes "file 1073741825 a\n") ≡ Some (Line 1)
unfolding digits
too_large = refl

largest : fault_at 1 top (codes "file 1073741824 a\nx") ≡ Some Truncated
unfolding digits
largest = refl

dot : fault_at 1 top (codes "dir .\nend\n") ≡ Some (Line 1)
dot = refl

two_slashes : fault_at 1 top (codes "dir a//b\nend\n") ≡ Some (Line 1)
two_slashes = refl

no_path : fault_at 1 top (codes "dir \nend\n") ≡ Some (Path 1 Empty)
no_path = refl

no_parent : fault_at 1 top (codes "file 0 d/a\n\nend\n") ≡ Some (TreeAt 1 NoDirectory)
unfolding digits
no_parent = refl

on_a_file : fault_at 2 (([], Directory) ∷ (codes "a", File []) ∷ []) (codes "dir a/b\nend\n") ≡ Some (TreeAt 2 IsFile)
on_a_file = refl

long_header : fault_at 1 top (replicate 1101 97 ++ 10 ∷ []) ≡ Some (Line 1)
long_header = refl

spelled : bundle_of (([], Directory) ∷ (codes "hello.do", File (codes "echo hi\n")) ∷ []) ≡ codes "file 8 hello.do\necho hi\n\nend\n"
unfolding digits
spelled = refl
