-- Each event stands in a call where it may, in every run.
use Rattle.std.proofs.Common.{◌≡◌, ℕ, ◌<◌, true, List, [], ◌∷◌, length, Option, Some, None, inl, inr, refl, ap, sym}
use Rattle.std.proofs.Common.{subst, ◌∙◌, slice_index_or}
use Rattle.epoch_cells.specs.declared.fault.Fault.{Fault}
use Rattle.epoch_cells.specs.declared.fault.Fault.TheVariants.{TableFull, NotRegistered, Ended}
use Rattle.epoch_machine.specs.declared.machine.Sizes.{Sizes}
use Rattle.epoch_laws.specs.declared.step.Call.{Call}
use Rattle.epoch_laws.specs.declared.step.Step.{Step}
use Rattle.epoch_laws.specs.declared.step.Step.TheVariants.{Register, Begin, Go, End as EndStep, EndGo}
use Rattle.epoch_laws.specs.declared.step.Reply.{Reply}
use Rattle.epoch_laws.specs.declared.step.Reply.TheVariants.{Registered, Began, Refused}
use Rattle.epoch_laws.specs.declared.step.Entry.{Entry}
use Rattle.epoch_laws.specs.declared.step.Word.TheVariants.{Free, Unpinned}
use Rattle.epoch_laws.specs.Run.{with_places, WorldSeat, State, Ending, Open, Emptying, Over, seat_of, position_word}
use Rattle.epoch_laws.specs.Run.{with_seat, free_seat, refusal, begun_seat, BeginsCall, EndGoes, Moves, Runs, IsFresh}
use Rattle.epoch_laws.specs.Lawful.{Told, nothing, after_begin, after_go, told_after, told_from}
use Rattle.epoch_laws.specs.Lawful.{HasToldRefused, MayEnd, MayEndGo}
use Rattle.epoch_laws.specs.Lawful.{MayReply, MayReplyAll}
use Rattle.epoch_laws.proofs.SeatLemmas.{seat_there, IsAccepted, begin_given}
use Rattle.epoch_laws.proofs.SeatLinks.{AllLinked}
use Rattle.epoch_laws.proofs.Linked.{step_linked, fresh_linked}
use Rattle.epoch_laws.proofs.GuardLists.{has_any}
use Rattle.epoch_laws.proofs.EventsAgree.{Agrees, IsAway, AllAgree, seat_agrees, told_agrees}
use Rattle.epoch_laws.proofs.EventsAtBegin.{begin_agrees, begin_allowed}
use Rattle.epoch_laws.proofs.EventsOfGo.{tell_go}

-- what a step has to show: its reply may stand, and what is told from then on agrees with the seats
abbrev ShowsStep : State → (ℕ → Told) → Step → Reply → Type 0
ShowsStep new told step reply = MayReply told step reply × AllAgree new (λ q. told_after q (told q) step reply)

module _ (old new : State) (told : ℕ → Told) (reply : Reply) (h : AllAgree old told) (linked : AllLinked old) where
  begin_shown : (p : ℕ) (c : Call) (fault : Option Fault) → refusal c (seat_of old p) old.tickets old.heap ≡ fault
      → BeginsCall old p c fault reply new → ShowsStep new told (Begin p c) reply
  begin_shown p c (Some fault) e did = subst (λ (r : Reply). ShowsStep new told (Begin p c) r) (sym did.0)
      (subst (λ (s : State). ShowsStep s told (Begin p c) (Refused fault)) (sym did.1)
      (tt, told_agrees old told (λ u. after_begin u c (Refused fault)) p h (h p)))
  begin_shown p c None e did =
      let ok : IsAccepted c (seat_of old p) old.tickets old.heap =
      begin_given c (seat_of old p) old.tickets old.heap e in
      subst (λ (r : Reply). ShowsStep new told (Begin p c) r) (sym did.0)
      (subst (λ (s : State). ShowsStep s told (Begin p c) Began) (sym did.1) (
        begin_allowed (told p) (seat_of old p) old.sizes old.tickets old.heap (h p) (linked.seats p) c ok,
        seat_agrees old told (λ u. after_begin u c Began) p (begun_seat c (seat_of old p)) h
            (seat_there old p ok.taken)
            (begin_agrees (told p) (seat_of old p) old.sizes old.tickets old.heap (h p) (linked.seats p) c ok),
      ))

  -- no seat is written, and nothing is told of a participant
  untold : new.sizes ≡ old.sizes → new.seats ≡ old.seats → AllAgree new told
  untold sizes seats q = subst (λ (at : WorldSeat). Agrees (told q) at) (sym same) (h q)
    where
      same : seat_of new q ≡ seat_of old q
      same = ap (λ (ss : List WorldSeat). slice_index_or ss q (free_seat new.sizes)) seats
          ∙ ap (λ (z : Sizes). slice_index_or old.seats q (free_seat z)) sizes

  untold_along : (last : State) → new ≡ last → last.sizes ≡ old.sizes → last.seats ≡ old.seats → AllAgree new told
  untold_along last e sizes seats =
      untold (ap (λ (s : State). s.sizes) e ∙ sizes) (ap (λ (s : State). s.seats) e ∙ seats)

  abbrev taken : WorldSeat
  taken = record (free_seat old.sizes) { word = Unpinned }

  registered : (p : ℕ) → p < length old.seats → position_word old p ≡ Free → reply ≡ Registered p
      → new ≡ with_seat old p taken → ShowsStep new told Register reply
  registered p there free told_so e = subst (λ (r : Reply). ShowsStep new told Register r) (sym told_so)
      (subst (λ (s : State). ShowsStep s told Register (Registered p)) (sym e) (
        away.registered,
        seat_agrees old told (λ u. record u { registered = true }) p taken h there own,
      ))
    where
      away : IsAway (told p)
      away = (h p).away free

      own : Agrees (record (told p) { registered = true }) taken
      own = record {
        guards = away.guards;
        paused = away.paused;
        told = (away.call, away.pinned ∙ sym (ap has_any away.guards));
        here = λ word. refl;
        away = λ still_free. absurd (cc);
      }

  -- a registration that is refused
  unregistered : (fault : Fault) → reply ≡ Refused fault → new ≡ old → ShowsStep new told Register reply
  unregistered fault told_so e = subst (λ (r : Reply). ShowsStep new told Register r) (sym told_so)
      (tt, untold_along old e refl refl)

  -- a Go of a position that is free
  away_shown : (p : ℕ) → position_word old p ≡ Free → reply ≡ Refused NotRegistered → new ≡ old
      → ShowsStep new told (Go p) reply
  away_shown p free told_so e =
      let away : IsAway (told p) = (h p).away free in
      let same : told p ≡ after_go (told p) (Refused NotRegistered) = λ i. record (told p) { call = away.call i } in
      subst (λ (r : Reply). ShowsStep new told (Go p) r) (sym told_so)
      (subst (λ (s : State). ShowsStep s told (Go p) (Refused NotRegistered)) (sym e) (
        subst (λ (call : Option Call). HasToldRefused call (told p)) (sym away.call) tt,
        told_agrees old told (λ u. after_go u (Refused NotRegistered)) p h
            (subst (λ (t : Told). Agrees t (seat_of old p)) same (h p)),
      ))

  end_shown : (e : Ending) → EndGoes old e reply new → ShowsStep new told EndGo reply
  end_shown Open did = (subst MayEndGo (sym did.0) tt, untold_along old did.1 refl refl)
  end_shown Over did = (subst MayEndGo (sym did.0) tt, untold_along old did.1 refl refl)
  end_shown (Emptying (job ∷ jobs) n) did = (subst MayEndGo (sym did.0) tt, untold_along _ did.1 refl refl)
  end_shown (Emptying [] n) (inl did) = (subst MayEndGo (sym did.3) tt, untold_along _ did.4 refl refl)
  end_shown (Emptying [] n) (inr did) = (subst MayEndGo (sym did.1) tt, untold_along _ did.2 refl refl)

  step_shown : (step : Step) → Moves old step reply new → ShowsStep new told step reply
  step_shown Register (inl did) = registered did.0 did.2 did.3 did.5 did.6
  step_shown Register (inr (inl did)) = unregistered TableFull did.2 did.3
  step_shown Register (inr (inr did)) = unregistered Ended did.1 did.2
  step_shown (Begin p c) did = begin_shown p c (refusal c (seat_of old p) old.tickets old.heap) refl did
  step_shown (Go p) (inl did) = away_shown p did.0 did.1 did.2
  step_shown (Go p) (inr did) =
      tell_go old new told reply h p did.0 (linked.seats p) (seat_of old p).progress refl did.1
  step_shown EndStep (inl did) = (subst MayEnd (sym did.2) tt, untold_along _ did.3 refl refl)
  step_shown EndStep (inr (inl did)) = (subst MayEnd (sym did.2) tt, untold_along old did.3 refl refl)
  step_shown EndStep (inr (inr did)) = (subst MayEnd (sym did.1) tt, untold_along old did.2 refl refl)
  step_shown EndGo did = end_shown old.ending did

replies_from : (old new : State) (log : List Entry) (told : ℕ → Told)
    → AllAgree old told
    → AllLinked old
    → Runs old log new
    → MayReplyAll told log
replies_from old new [] told h linked run = tt
replies_from old new (x ∷ log) told h linked (mid, took, run) =
    let aside : State = with_places mid old.places old.seen old.ahead old.room in
    let shown : ShowsStep mid told x.step x.reply = step_shown old aside told x.reply h linked x.step took.0 in
    let still_linked : AllLinked mid = step_linked old mid x.step x.reply linked took in
    (shown.0, replies_from mid new log (λ q. told_after q (told q) x.step x.reply) shown.1 still_linked run)

-- what is told agrees with the seats after a run, too
pub agrees_along : (old new : State) (log : List Entry) (told : ℕ → Told) → AllAgree old told → AllLinked old
    → Runs old log new → AllAgree new (λ q. told_from q (told q) log)
agrees_along old new [] told h linked run = subst (λ (s : State). AllAgree s told) (sym run) h
agrees_along old new (x ∷ log) told h linked (mid, took, run) =
    let aside : State = with_places mid old.places old.seen old.ahead old.room in
    let shown : ShowsStep mid told x.step x.reply = step_shown old aside told x.reply h linked x.step took.0 in
    agrees_along mid new log (λ q. told_after q (told q) x.step x.reply) shown.1
    (step_linked old mid x.step x.reply linked took) run

-- nothing is told of a new world
pub fresh_agrees : (s : State) → IsFresh s → AllAgree s (λ p. nothing)
fresh_agrees s fresh q = subst (λ (at : WorldSeat). Agrees nothing at) (sym (fresh.free q)) none_told
  where
    none_told : Agrees nothing (free_seat s.sizes)
    none_told = record {
      guards = refl;
      paused = refl;
      told = (refl, refl);
      here = λ word. absurd (word refl);
      away = λ free. record { registered = refl; call = refl; guards = refl; paused = refl; pinned = refl };
    }

-- in every run from a new world, each reply is one that its step may have by what was told before it
pub replies_stand : (s new : State) (log : List Entry) → IsFresh s → Runs s log new → MayReplyAll (λ p. nothing) log
replies_stand s new log fresh run =
    replies_from s new log (λ p. nothing) (fresh_agrees s fresh) (fresh_linked s fresh) run
