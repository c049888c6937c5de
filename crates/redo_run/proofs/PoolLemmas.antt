-- The takers of workers: of those that aren't started, of those that are, and of all once they are back.
use Rattle.std.proofs.Common.{◌≡◌, ◌+◌, ◌<◌, ◌++◌, ◌∷◌, ℕ, List, [], map, length, get_or, ap, sym, ◌∙◌, subst, arith}
use Rattle.std.specs.Prelude.{All}
use Rattle.std.proofs.Math.ListN.{get_or-append, get_or-map}
use Rattle.std.proofs.Math.Seq.{get_or-append_seam}
use Rattle.std.proofs.lemmas.List.{length-append, length-map}
use Rattle.std.proofs.lemmas.List.Elements.{All-append, All-cons, All-map, All-nil}
use Rattle.redo_sync.specs.Relay.{RelayId, Source, Taker}
use Rattle.redo_run.specs.inside.Workers.{AreAllTakers, AreTakersOf, IsManned}

abbrev relay_of : Taker → RelayId
relay_of t = t.relay

module _ (relay : RelayId) (count : ℕ) where
  abbrev HasRelay : Taker → Type 0
  HasRelay t = t.relay ≡ relay

  abbrev IsRelay : RelayId → Type 0
  IsRelay r = r ≡ relay

  -- a worker is started: it has the taker of one that wasn't
  pub one_started : (idle : List Taker) (t : Taker) (promised : List RelayId) →
      IsManned relay count (idle ++ t ∷ []) promised → IsManned relay count idle (promised ++ t.relay ∷ [])
  one_started idle t promised m =
      let all = m.count in let a = length-append idle (t ∷ []) in let b = length-append promised (t.relay ∷ []) in
      let own : t.relay ≡ relay =
      subst HasRelay (get_or-append_seam idle t [] t) (m.idle_own (length idle) t (omega (arith, a))) in
      record {
        count = omega (arith, all, a, b);
        idle_own = λ k d below. subst HasRelay (get_or-append idle (t ∷ []) d k below) (m.idle_own k d (omega (arith, a, below)));
        promised_own = All-append IsRelay promised (t.relay ∷ []) m.promised_own (All-cons IsRelay t.relay [] own (All-nil IsRelay));
      }

  -- before the first is started
  pub none_started : (idle : List Taker) (promised : List RelayId) → promised ≡ [] → length idle ≡ count → All HasRelay idle → IsManned relay count idle promised
  none_started idle promised none all own =
      let P : List RelayId → Type 0 = IsManned relay count idle in
      subst P (sym none) record { count = omega (arith, all); idle_own = own; promised_own = All-nil IsRelay }

  -- takers whose relays are all this one have it
  kept : (takers : List Taker) (relays : List RelayId) → map relay_of takers ≡ relays → All IsRelay relays → All HasRelay takers
  kept takers relays same all k d below =
      let long : length takers ≡ length relays = sym (length-map takers relay_of) ∙ ap length same in
      subst IsRelay (sym (ap (λ l. get_or l k (relay_of d)) same) ∙ get_or-map relay_of takers k d)
      (all k (relay_of d) (subst (λ n. k < n) long below))

  -- those of workers that were started and of those that weren't are takers of the relay
  pub all_back : (takers idle : List Taker) (promised : List RelayId) → map relay_of takers ≡ promised ++ map relay_of idle →
      IsManned relay count idle promised → AreTakersOf relay count takers
  all_back takers idle promised same m =
      let all = m.count in let a = length-append promised (map relay_of idle) in let c = length-map idle relay_of in
      let d : length takers ≡ length (promised ++ map relay_of idle) = sym (length-map takers relay_of) ∙ ap length same in
      let relays : All IsRelay (promised ++ map relay_of idle) =
      All-append IsRelay promised (map relay_of idle) m.promised_own (All-map IsRelay relay_of idle m.idle_own) in
      (omega (arith, all, a, c, d), kept takers (promised ++ map relay_of idle) same relays)

  -- with the owner's these are all takers of the source
  pub all_takers : (takers : List Taker) (own : Taker) (source : Source) → AreTakersOf relay count takers → own.relay ≡ relay →
      source.relay ≡ relay → count + 1 ≡ source.takers → AreAllTakers source (takers ++ own ∷ [])
  all_takers takers own source all e of many =
      let a = length-append takers (own ∷ []) in let b = all.0 in
      let each : All HasRelay (takers ++ own ∷ []) =
      All-append HasRelay takers (own ∷ []) all.1 (All-cons HasRelay own [] e (All-nil HasRelay)) in
      (omega (arith, a, b, many), λ k t below. each k t below ∙ sym of)

-- of takers that a relay was made with, the last and the others
module _ (relay : RelayId) where
  abbrev pub IsNew : Taker → Type 0
  IsNew t = (t.relay ≡ relay) × (t.taken ≡ [])

  pub last_new : (rest : List Taker) (t : Taker) → All IsNew (rest ++ t ∷ []) → t.relay ≡ relay
  last_new rest t all =
      let a = length-append rest (t ∷ []) in
      (subst IsNew (get_or-append_seam rest t [] t) (all (length rest) t (omega (arith, a)))).0

  pub others_new : (rest : List Taker) (t : Taker) → All IsNew (rest ++ t ∷ []) → All (λ u. u.relay ≡ relay) rest
  others_new rest t all k d below =
      let a = length-append rest (t ∷ []) in
      (subst IsNew (get_or-append rest (t ∷ []) d k below) (all k d (omega (arith, a, below)))).0
