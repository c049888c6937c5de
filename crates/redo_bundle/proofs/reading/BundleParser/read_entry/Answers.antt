use Rattle.std.proofs.Common.{arith, length, ◌≡◌, Some, None}
use Rattle.std.proofs.lemmas.Grind.{common_steps}
use Rattle.std.proofs.KnownBytes.{Consumes-nil}
use Rattle.redo_bundle.specs.Bundle.{header_of}
use Rattle.redo_bundle.proofs.BodyLemmas.{adds_directory, adds_file, directory_refuses}
use Rattle.redo_bundle.proofs.reading.BundleParser.read_entry.Goals as goal

pub returns-in-Some-None-default-clause-adds : goal.returns-in-Some-None-default-clause-adds
returns-in-Some-None-default-clause-adds g c =
    let word = c.in-Some-None-default.word.now in
    let h : header_of c.args.line.now ≡ Some (None, word) = grind (arith, common_steps) in
    rw c.read_directory.ensures.held (adds_directory c.args.self.now.tree c.read_directory.new.self.tree c.args.line.now word _ _ c.read_directory.result h c.read_directory.ensures.place c.read_directory.ensures.adds (Consumes-nil _))

pub returns-in-Some-None-default-clause-fault : goal.returns-in-Some-None-default-clause-fault
returns-in-Some-None-default-clause-fault g c =
    let word = c.in-Some-None-default.word.now in
    let h : header_of c.args.line.now ≡ Some (None, word) = grind (arith, common_steps) in
    directory_refuses c.read_directory.result (length c.args.self.now.tree) c.args.self.now.tree c.args.line.now word _ h c.read_directory.ensures.fault

pub returns-in-Some-Some-default-clause-adds : goal.returns-in-Some-Some-default-clause-adds
returns-in-Some-Some-default-clause-adds g c =
    let word = c.in-Some-Some-default.word.now in
    let h : header_of c.args.line.now ≡ Some (Some c.in-Some-Some-default.size, word) = grind (arith, common_steps) in
    adds_file c.args.self.now.tree c.read_file.new.self.tree c.args.line.now word c.in-Some-Some-default.size _ _ c.read_file.result h c.read_file.ensures.place c.read_file.ensures.adds
