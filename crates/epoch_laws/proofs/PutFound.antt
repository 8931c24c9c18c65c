-- A first round whose Flush isn't refused goes through a state in which its own bag is in the store.
use Rattle.std.proofs.Common.{◌≡◌, ℕ, List, [], ◌∷◌, ◌++◌, Some, inl, inr, refl, ap, sym, subst, ◌∙◌, append_assoc}
use Rattle.epoch_machine.specs.declared.machine.Sizes.{Sizes}
use Rattle.epoch_machine.specs.declared.machine.Stage.TheVariants.{LoadScan}
use Rattle.epoch_laws.specs.declared.heap.access.AccessAnswer.TheVariants.{Guard, Unit as UnitAnswer}
use Rattle.epoch_laws.specs.declared.step.Call.TheVariants.{Pin, Unpin, Flush}
use Rattle.epoch_laws.specs.declared.step.Entry.{Entry}
use Rattle.epoch_laws.specs.declared.step.Reply.{Reply}
use Rattle.epoch_laws.specs.declared.step.Reply.TheVariants.{Began, Done}
use Rattle.epoch_laws.specs.declared.step.Step.TheVariants.{Begin, Go}
use Rattle.epoch_laws.specs.Calls.{call_entries, goes_of, AllGoOn}
use Rattle.epoch_laws.specs.Run.{State, seat_of, Runs, IsFresh}
use Rattle.epoch_laws.proofs.RunsGoOn.{runs_append}
use Rattle.epoch_laws.specs.Rounds.{call_to, IsFirstRound, RoundsCallAll}
use Rattle.epoch_laws.proofs.QuietRounds.{runs_split}
use Rattle.epoch_laws.proofs.FirstRound.{Before, before_goes, driven, flush_begins, quiet_rounds}

goes_append : (p : ℕ) (a b : List Reply) → goes_of p (a ++ b) ≡ goes_of p a ++ goes_of p b
goes_append p [] b = refl
goes_append p (r ∷ a) b = ap (λ (es : List Entry). record { step = Go p; reply = r } ∷ es) (goes_append p a b)

module _ (p g epoch : ℕ) (sizes : Sizes) where
  -- the steps of the Flush up to its scan, and those from there on
  record Found (begun ended : State) (going : List Reply) : Type 0 where
    put : State
    puts : List Reply
    flushes : List Reply
    whole : going ≡ puts ++ flushes
    putting : AllGoOn puts
    flushing : AllGoOn flushes
    reaches : Runs begun (goes_of p puts) put
    goes_on : Runs put (goes_of p (flushes ++ Done UnitAnswer ∷ [])) ended
    scans : (seat_of put p).machine.stage ≡ LoadScan

  here : (begun ended : State) (going : List Reply) → (seat_of begun p).machine.stage ≡ LoadScan → AllGoOn going
      → Runs begun (goes_of p (going ++ Done UnitAnswer ∷ [])) ended → Found begun ended going
  here begun ended going scans on run =
      record {
        put = begun;
        puts = [];
        flushes = going;
        whole = refl;
        putting = tt;
        flushing = on;
        reaches = refl;
        goes_on = run;
        scans = scans;
      }

  find : (begun ended : State) (going : List Reply) → Before p g epoch sizes begun → AllGoOn going
      → Runs begun (goes_of p (going ++ Done UnitAnswer ∷ [])) ended → Found begun ended going
  find begun ended [] h on (mid, did, run) =
      elim (before_goes p g epoch sizes begun mid (Done UnitAnswer) h (seat_of begun p).machine.stage refl h.stage
      (driven p g epoch sizes begun mid (Done UnitAnswer) h.flushes did)) [
        | inl scans ↦ here begun ended [] scans tt (mid, did, run)
        | inr went ↦ absurd (cc (went.0))
      ]
  find begun ended (r ∷ going) h on (mid, did, run) =
      elim (before_goes p g epoch sizes begun mid r h (seat_of begun p).machine.stage refl h.stage
      (driven p g epoch sizes begun mid r h.flushes did)) [
        | inl scans ↦ here begun ended (r ∷ going) scans on (mid, did, run)
        | inr went ↦
            let rest = find mid ended going went.1 on.1 run in
            record {
              put = rest.put;
              puts = r ∷ rest.puts;
              flushes = rest.flushes;
              whole = ap (λ (rs : List Reply). r ∷ rs) rest.whole;
              putting = (on.0, rest.putting);
              flushing = rest.flushing;
              reaches = (mid, did, rest.reaches);
              goes_on = rest.goes_on;
              scans = rest.scans;
            }
      ]

-- the entries of the round are those before that state and those after it
cut : (p : ℕ) (first : Entry) (pin unpin : List Entry) (going puts flushes last : List Reply) → going ≡ puts ++ flushes
    → pin ++ ((first ∷ goes_of p (going ++ last)) ++ unpin) ≡ (pin ++ (first ∷ goes_of p puts))
    ++ (goes_of p (flushes ++ last) ++ unpin)
cut p first pin unpin going puts flushes last whole =
    let parts : goes_of p (going ++ last) ≡ goes_of p puts ++ goes_of p (flushes ++ last) =
    ap (λ (rs : List Reply). goes_of p (rs ++ last)) whole ∙ ap (goes_of p) (append_assoc puts flushes last)
    ∙ goes_append p puts (flushes ++ last) in
    ap (λ (es : List Entry). pin ++ ((first ∷ es) ++ unpin)) parts
    ∙ ap (λ (es : List Entry). pin ++ es) (append_assoc (first ∷ goes_of p puts) (goes_of p (flushes ++ last)) unpin)
    ∙ sym (append_assoc pin (first ∷ goes_of p puts) (goes_of p (flushes ++ last) ++ unpin))

-- In every run of a new world, enough rounds of a participant whom nobody disturbs call every job that is in the store
-- when the first of them has put its bag, if the flush of that one isn't refused.
pub rounds_call_all : (fresh s new : State) (earlier log : List Entry)
    → IsFresh fresh → Runs fresh earlier s → Runs s log new → RoundsCallAll s log new
rounds_call_all fresh s new earlier log is_fresh run goes p first others later whole quiet small round told =
    let g : ℕ = round.guard in
    let last : List Reply = Done UnitAnswer ∷ [] in
    let pin : List Entry = call_to p Pin round.pins (Done (Guard g)) in
    let flush : List Entry = call_to p (Flush (Some g)) round.flushes (Done UnitAnswer) in
    let unpin : List Entry = call_to p (Unpin (Some g)) round.unpins (Done UnitAnswer) in
    let is : first ≡ pin ++ (flush ++ unpin) =
    round.whole ∙ ap (λ (r : Reply). pin ++ (call_to p (Flush (Some g)) round.flushes r ++ unpin)) told in
    let firsts = runs_split s new first (others ++ later) (subst (λ (es : List Entry). Runs s es new) whole goes) in
    let seconds = runs_split firsts.0 new others later firsts.2 in
    let pinned = runs_split s firsts.0 pin (flush ++ unpin)
    (subst (λ (es : List Entry). Runs s es firsts.0) is firsts.1) in
    let flushed = runs_split pinned.0 firsts.0 flush unpin pinned.2 in
    let begins = flush_begins fresh s pinned.0 flushed.1.0 earlier is_fresh run p quiet small g round.pins
    round.pinning pinned.1 flushed.1.1 in
    let found = find p g s.epoch s.sizes flushed.1.0 flushed.0 round.flushes begins round.flushing flushed.1.2 in
    let before : List Entry = pin ++ call_entries p (Flush (Some g)) (Began ∷ found.puts) in
    let after : List Entry = goes_of p (found.flushes ++ last) ++ unpin in
    let puts : IsFirstRound p before found.put after = record {
      guard = g;
      pins = round.pins;
      puts = found.puts;
      flushes = found.flushes;
      unpins = round.unpins;
      pinning = round.pinning;
      putting = found.putting;
      flushing = found.flushing;
      unpinning = round.unpinning;
      until = refl;
      scans = found.scans;
      behind = refl;
    } in
    let reaches : Runs s before found.put =
    runs_append s pinned.0 found.put pin (call_entries p (Flush (Some g)) (Began ∷ found.puts)) pinned.1
    (flushed.1.0, flushed.1.1, found.reaches) in
    let goes_on : Runs found.put (after ++ others) seconds.0 =
    runs_append found.put firsts.0 seconds.0 after others (runs_append found.put flushed.0 firsts.0
    (goes_of p (found.flushes ++ last)) unpin found.goes_on flushed.2) seconds.1 in
    record {
      put = found.put;
      done = seconds.0;
      before = before;
      after = after;
      whole = is ∙ cut p (record { step = Begin p (Flush (Some g)); reply = Began }) pin unpin round.flushes found.puts
          found.flushes last found.whole;
      puts = puts;
      reaches = reaches;
      goes_on = goes_on;
      ends = seconds.2;
      calls_all = λ rounds. quiet_rounds fresh s found.put seconds.0 earlier before after others p is_fresh run quiet
          small reaches puts rounds goes_on;
    }
