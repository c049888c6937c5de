-- The machine value of a `Knows`, and its rows. Assumes `Logic`.
use Rattle.std.proofs.Common.{ℕ, [], ◌∷◌, refl}
use seplogic.Ra.Ura.{Ura}
use base.Logic.{ent}
use mir.Val.{Val, vstruct, vcons, vnil}
use types.Logic.{Logic, sem}
use types.Kit.{‵, ◌$◌, ◌∵◌, !, qed, use0, done}
use denote.RattleType.{RattleType}
use denote.Shadow.{makes_shadow}
use denote.Struct.Struct.{Struct}
use denote.Struct.Owning.{shape}
use denote.Param.Send.{IsSend, IsSync, sendable}
use Rattle.redo_sync.specs.inside.Knows.{known_of}
use Rattle.redo_sync.specs.contracts.knows.Knows as Knows

abbrev pub token : Val
token = vstruct (vcons (vstruct vnil) vnil)

pub knows_made : {M : Type 1} {𝓤 : Ura M} (𝓛 : Logic 𝓤) (R : RattleType) (γ : ℕ) (x : R.Denot)
    → ent 𝓤 (sem 𝓛 (known_of R γ x)) (sem 𝓛 ((Knows.the_row R).own_val (record { marker = record {}; cell = γ; value = x }) (token ∷ [])))
knows_made 𝓛 R γ x = let F = (Struct (shape (Knows.the_type R))).own_val (tt, tt) (token ∷ []) in
    qed 𝓛 (‵ (known_of R γ x) ∷ []) ∵ use0 𝓛 (‵ F) (makes_shadow 𝓛 F (λ vss. (tt, ((λ uss. (tt, tt)), tt))) ((vstruct vnil ∷ [], tt), (refl, ((tt, (refl, tt)), tt)))) $ done !

pub knows_send : (R : RattleType) → IsSend (Knows.the_row R)
knows_send R = record { owned = λ d vs. ((λ vss. (tt, ((λ uss. (tt, tt)), tt))), tt); leaving = λ k f vs. tt }

pub knows_sync : (R : RattleType) → IsSync (Knows.the_row R)
knows_sync R = let fields : IsSync (Struct (shape (Knows.the_type R))) = search sendable depth 20 in
    record { shared = λ d b o κ. (fields.shared (tt, tt) b o κ, tt) }
