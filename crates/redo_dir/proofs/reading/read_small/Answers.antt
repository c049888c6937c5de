use Rattle.std.proofs.Common.{◌≡◌, ◌≤◌, arith, length}
use Rattle.redo_dir.proofs.ReadingLemmas.{first-read, rest-read}
use Rattle.redo_dir.proofs.reading.read_small.Goals as goal

pub returns-then-count-size : goal.returns-then-count-size
returns-then-count-size g c =
    let room = c.read_once.new.room in
    let many : length room ≡ c.args.size = omega (arith, c.read_once.auto.room, c.deref_mut.ensures.len, c.in_ok-bytes.ensures.len) in
    first-read _ _ c.args.size c.in_ok-count.count c.in_ok-bytes.bytes.len room _ c.in_ok-bytes.ensures.len c.if-count-size.true many
    c.in_ok-count.ensures.bytes

pub returns : goal.returns
returns g c =
    let room = c.read_once.new.room in
    let many : length room ≡ c.args.size = omega (arith, c.read_once.auto.room, c.deref_mut.ensures.len, c.in_ok-bytes.ensures.len) in
    let fits : c.in_ok-count.count ≤ c.args.size = omega (arith, c.in_ok-count.ensures.fits) in
    rest-read _ _ c.args.size c.in_ok-count.count c.in_ok-bytes.bytes.len room _ _ _ c.in_ok-bytes.ensures.len fits many
    c.in_ok-count.ensures.bytes c.truncate.ensures.items
    (rw (c.take.ensures.limit, c.take.ensures.inner) at c.in_ok-read_to_end.ensures.bytes)
