-- How an entry stands, as the code has it.
use Rattle.redo_skip.specs.Checks.{Standing, falls, lacks, stands}
use Rattle.redo_rules.specs.declared.standing.Alone.{Alone}
use Rattle.redo_rules.specs.declared.standing.Alone.TheVariants.{Stands, Asks, Falls}

-- whether an entry stands, judged without any answer
abbrev pub standing_of : Alone → Standing
standing_of Stands = stands
standing_of Asks = lacks
standing_of Falls = falls
