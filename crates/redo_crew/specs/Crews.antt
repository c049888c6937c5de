-- The marks with which a crew begins.
use Rattle.std.specs.Prelude.{◌≡◌}
use Rattle.crossbeam_channel.specs.Claims.{IsSeatAt}
use Rattle.crossbeam_channel.specs.Claims as claims
use Rattle.crossbeam_channel.specs.Ends.{sends_on}
use Rattle.redo_crew.specs.Tally.{tally}
use Rattle.redo_crew.specs.Tracks.{fresh}
use Rattle.redo_crew.specs.declared.crew.Crew.{Crew}
use Rattle.redo_crew.specs.declared.member.First.{First}

-- the first marks at this crew, of a thread that has done nothing
abbrev pub IsFirstOf : Crew → First → Type 0
IsFirstOf crew first =
    (first.mark.table_id ≡ crew.word.shared.table_id)
    × (first.mark.me.0 ≡ fresh)
    × IsSeatAt (sends_on crew.clapper) first.pass
    × (claims.view first.pass ≡ tally 0 0)
