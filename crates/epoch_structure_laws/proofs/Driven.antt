-- A flush, and the deferral of a removal that has room: what a step of its machine leaves of the seat, and of the
-- machine.
use Rattle.std.proofs.Common.{◌≡◌, ◌≢◌, ℕ, ◌+◌, ◌-◌, ◌^◌, ◌==◌, Bool, true, false, List, [], ◌⊎◌, inl, inr}
use Rattle.std.proofs.Common.{refl, ap, sym, subst, ◌∙◌, if◌then◌else◌, slice_set}
use Rattle.epoch_bags.specs.Bags.{is_empty}
use Rattle.epoch_bags.specs.declared.queue.PutStep.{PutStep}
use Rattle.epoch_bags.specs.declared.queue.PutStep.TheVariants.{Again as PutAgain, Done as PutDone, Full as PutFull}
use Rattle.epoch_bags.specs.declared.queue.TakeStep.{TakeStep}
use Rattle.epoch_bags.specs.declared.queue.TakeStep.TheVariants.{Again as TakeAgain, Empty, Got}
use Rattle.epoch_machine.specs.declared.machine.Action.{Action}
use Rattle.epoch_machine.specs.declared.machine.Action.TheVariants.{Flush as FlushAction}
use Rattle.epoch_machine.specs.declared.machine.Answer.{Answer}
use Rattle.epoch_machine.specs.declared.machine.Answer.TheVariants.{Epoch, Word as WordFound, Stored, Job}
use Rattle.epoch_machine.specs.declared.machine.Stage.{Stage}
use Rattle.epoch_machine.specs.declared.machine.Stage.TheVariants.{LoadScan, Scan, Advance, Take, Calling, LoadSeal}
use Rattle.epoch_machine.specs.declared.machine.Stage.TheVariants.{Put, Keep, End}
use Rattle.epoch_machine.specs.Machine.{Machine, ask_at, hears, put_heard, took_heard, gives, after_collect, after_put}
use Rattle.epoch_machine.specs.Machine.{holds_up}
use Rattle.epoch_laws.specs.declared.step.Call.{Call}
use Rattle.epoch_laws.specs.declared.step.Deferral.{Deferral}
use Rattle.epoch_laws.specs.declared.step.Reply.{Reply}
use Rattle.epoch_laws.specs.declared.step.Reply.TheVariants.{Repinned}
use Rattle.epoch_laws.specs.declared.step.Word.TheVariants.{Free}
use Rattle.epoch_laws.specs.Run.{WorldSeat, State, seat_of, position_word, word_number, removed_by, with_machine}
use Rattle.epoch_laws.specs.Run.{end_reply, ended_seat, DrivesCall}
use Rattle.epoch_laws.proofs.QuietReplies.{quiet_end}
use Rattle.epoch_laws.proofs.SeatLemmas.{seat_there}
use Rattle.epoch_structure_laws.proofs.Moved.{is_end, alone}

-- a stage at which no word is stored
abbrev pub IsStill : Stage → Type 0
IsStill LoadSeal = Unit {0}
IsStill (Put seal) = Unit {0}
IsStill LoadScan = Unit {0}
IsStill (Scan e k) = Unit {0}
IsStill (Advance e) = Unit {0}
IsStill (Take x k) = Unit {0}
IsStill (Calling x k) = Unit {0}
IsStill Keep = Unit {0}
IsStill End = Unit {0}
IsStill _ = ⊥

-- what a machine is after a step at such a stage
pub data Heard (m : Machine Deferral) : Stage → Machine Deferral → Type 0 where
  Hears : (s : Stage) (a : Answer Deferral) → Heard m s (hears m s a)
  HearsPut : (seal : ℕ) (step : PutStep) → Heard m (Put seal) (put_heard m step)
  HearsTake : (x k : ℕ) (step : TakeStep) (jobs : List Deferral) → Heard m (Take x k)
      (took_heard m (Take x k) step jobs)
  Gives : (x k : ℕ) (jobs : List Deferral) → Heard m (Calling x k) (gives m (Calling x k) jobs)

-- the call goes on with this machine
pub record GoesOn (old new : State) (p : ℕ) (reply : Reply) (m : Machine Deferral) : Type 0 where
  pub heard : Heard (seat_of old p).machine (seat_of old p).machine.stage m
  pub seat : seat_of new p ≡ with_machine (seat_of old p) m
  pub silent : is_end reply ≡ false
  pub told : (q : ℕ) → reply ≢ Repinned q

-- or it ends
pub record IsOverAt (old new : State) (p : ℕ) (c : Call) (reply : Reply) : Type 0 where
  pub stage : (seat_of old p).machine.stage ≡ End
  pub reply_is : reply ≡ end_reply c (seat_of old p)
  pub seat : seat_of new p ≡ ended_seat c (seat_of old p)

-- what such a step shows
pub record Drove (old new : State) (p : ℕ) (c : Call) (reply : Reply) : Type 0 where
  pub others : (q : ℕ) → q ≢ p → seat_of new q ≡ seat_of old q
  pub goes : ((m : Machine Deferral) × GoesOn old new p reply m) ⊎ IsOverAt old new p c reply

module _ (old new : State) (p : ℕ) (c : Call) (reply : Reply) (taken : position_word old p ≢ Free) where
  abbrev seat : WorldSeat
  seat = seat_of old p

  on : (s : Stage) (m : Machine Deferral) (r : Reply) (last : State) → seat.machine.stage ≡ s → Heard seat.machine s m
      → reply ≡ r → is_end r ≡ false → ((q : ℕ) → r ≢ Repinned q) → new ≡ last → last.sizes ≡ old.sizes
      → last.seats ≡ slice_set old.seats p (with_machine seat m) → Drove old new p c reply
  on s m r last stage heard told silent plain e sizes seats =
      let a = alone old new last p (with_machine seat m) (seat_there old p taken) e sizes seats in
      record {
        others = a.others;
        goes = inl (
          m,
          record {
            heard = subst (λ (t : Stage). Heard seat.machine t m) (sym stage) heard;
            seat = a.own;
            silent = ap is_end told ∙ silent;
            told = λ q is. plain q (sym told ∙ is);
          },
        );
      }

  drove_at : (s : Stage) → seat.machine.stage ≡ s → IsStill s → DrivesCall old p seat c s (ask_at s) reply new
      → Drove old new p c reply
  drove_at LoadSeal at still did =
      on LoadSeal _ _ _ at (Hears LoadSeal (Epoch old.epoch)) did.0 refl (λ q e. cc (e)) did.1 refl refl
  drove_at (Put seal) at still (step, queued, told, puts, e) =
      on (Put seal) _ _ _ at (HearsPut seal step) told refl (λ q e. cc (e)) e refl refl
  drove_at LoadScan at still did =
      on LoadScan _ _ _ at (Hears LoadScan (Epoch old.epoch)) did.0 refl (λ q e. cc (e)) did.1 refl refl
  drove_at (Scan e k) at still did =
      on (Scan e k) _ _ _ at
      (Hears (Scan e k) (WordFound (word_number (position_word old k)))) did.0 refl (λ q e. cc (e)) did.1 refl refl
  drove_at (Advance e) at still did =
      on (Advance e) _ _ _ at (Hears (Advance e) Stored) did.0 refl (λ q e. cc (e)) did.1 refl refl
  drove_at (Take x k) at still (step, jobs, queued, told, takes, e) =
      on (Take x k) _ _ _ at (HearsTake x k step jobs) told refl (λ q e. cc (e)) e refl refl
  drove_at (Calling x k) at still (job, jobs, hand, told, e) =
      on (Calling x k) _ _ _ at (Gives x k jobs) told refl (λ q e. cc (e)) e refl refl
  drove_at Keep at still did = on Keep _ _ _ at
      (Hears Keep (Job (record { ticket = old.tickets; removes = removed_by seat.progress }))) did.0 refl
      (λ q e. cc (e)) did.1 refl refl
  drove_at End at still did =
      let a = alone old new _ p (ended_seat c seat) (seat_there old p taken) did.1 refl refl in
      record { others = a.others; goes = inr (record { stage = at; reply_is = did.0; seat = a.own }) }
  drove_at _ at still did = absurd still

  -- such a step leaves the other seats, and the machine goes on or the call is over
  pub drove : IsStill seat.machine.stage
      → DrivesCall old p seat c seat.machine.stage (ask_at seat.machine.stage) reply new → Drove old new p c reply
  drove still did = drove_at seat.machine.stage refl still did

-- no call ends by telling of a repin
pub end_not_repinned : (c : Call) (seat : WorldSeat) (q : ℕ) → end_reply c seat ≢ Repinned q
end_not_repinned c seat q e = (quiet_end (end_reply c seat) c seat refl).plain.published q (inr e)

-- A FLUSH

-- a flush puts what is held, and leaves nothing held where it found a place
abbrev pub FlushesAt : Stage → Bool → List Deferral → Type 0
FlushesAt LoadSeal full held = Unit {0}
FlushesAt (Put seal) full held = Unit {0}
FlushesAt LoadScan full held = (full ≡ true) ⊎ (held ≡ [])
FlushesAt (Scan e k) full held = (full ≡ true) ⊎ (held ≡ [])
FlushesAt (Advance e) full held = (full ≡ true) ⊎ (held ≡ [])
FlushesAt (Take x k) full held = (full ≡ true) ⊎ (held ≡ [])
FlushesAt (Calling x k) full held = (full ≡ true) ⊎ (held ≡ [])
FlushesAt End full held = (full ≡ true) ⊎ (held ≡ [])
FlushesAt _ full held = ⊥

abbrev pub Flushing : Machine Deferral → Type 0
Flushing m = FlushesAt m.stage m.full m.held

-- a flush never stores the word of its participant
pub flush_still : (s : Stage) (full : Bool) (held : List Deferral) → FlushesAt s full held → IsStill s
flush_still LoadSeal full held at = tt
flush_still (Put seal) full held at = tt
flush_still LoadScan full held at = tt
flush_still (Scan e k) full held at = tt
flush_still (Advance e) full held at = tt
flush_still (Take x k) full held at = tt
flush_still (Calling x k) full held at = tt
flush_still End full held at = tt
flush_still _ full held at = absurd at

module _ (m : Machine Deferral) (action : m.action ≡ FlushAction) where
  abbrev Empties : Type 0
  Empties = (m.full ≡ true) ⊎ (m.held ≡ [])

  -- after a collection
  collected : Empties → FlushesAt (after_collect m.action m.held) m.full m.held
  collected e = subst (λ (a : Action). FlushesAt (after_collect a m.held) m.full m.held) (sym action) e

  -- after a word that was scanned, and after a job
  past : Empties → (b c d : Bool) (e k : ℕ)
      → FlushesAt (if b then Take e 0 else (if c then (if d then Take e 0 else Advance e) else Scan e (k + 1))) m.full
      m.held
  past empties true c d e k = empties
  past empties false true true e k = empties
  past empties false true false e k = empties
  past empties false false d e k = empties

  called : Empties → (b c : Bool) (x k : ℕ)
      → FlushesAt (if b then (if c then after_collect m.action m.held else Take x (k + 1)) else Calling x k) m.full
      m.held
  called empties true true x k = collected empties
  called empties true false x k = empties
  called empties false c x k = empties

  -- where nothing is heard it stays
  stays : (s : Stage) → m.stage ≡ s → FlushesAt s m.full m.held → Flushing m
  stays s is at = subst (λ (t : Stage). FlushesAt t m.full m.held) (sym is) at

  -- each step of a flush leaves one
  hears_flush : (s : Stage) (a : Answer Deferral) → m.stage ≡ s → FlushesAt s m.full m.held → Flushing (hears m s a)
  hears_flush LoadSeal (Epoch e) is at = tt
  hears_flush LoadSeal _ is at = stays LoadSeal is at
  hears_flush (Put seal) a is at = stays (Put seal) is at
  hears_flush LoadScan (Epoch e) is at = at
  hears_flush LoadScan _ is at = stays LoadScan is at
  hears_flush (Scan e k) (WordFound w) is at =
      past at (holds_up e w) (k + 1 == m.sizes.positions) (e == 2 ^ 63 - 1) e k
  hears_flush (Scan e k) _ is at = stays (Scan e k) is at
  hears_flush (Advance e) Stored is at = at
  hears_flush (Advance e) _ is at = stays (Advance e) is at
  hears_flush (Take x k) a is at = stays (Take x k) is at
  hears_flush (Calling x k) a is at = stays (Calling x k) is at
  hears_flush End a is at = stays End is at
  hears_flush _ a is at = absurd at

  -- a flush that has heard an answer is at the next of its stages
  pub flush_heard : (s : Stage) (next : Machine Deferral) → m.stage ≡ s → FlushesAt s m.full m.held → Heard m s next
      → Flushing next
  flush_heard s _ is at (Hears _ a) = hears_flush s a is at
  flush_heard _ _ is at (HearsPut seal PutAgain) = subst (λ (t : Stage). FlushesAt t m.full m.held) (sym is) at
  flush_heard _ _ is at (HearsPut seal PutDone) =
      subst (λ (a : Action). FlushesAt (after_put a false) false []) (sym action) (inr refl)
  flush_heard _ _ is at (HearsPut seal PutFull) =
      subst (λ (a : Action). FlushesAt (after_put a true) true m.held) (sym action) (inl refl)
  flush_heard _ _ is at (HearsTake x k TakeAgain jobs) = subst (λ (t : Stage). FlushesAt t m.full m.held) (sym is) at
  flush_heard _ _ is at (HearsTake x k Empty jobs) = collected at
  flush_heard _ _ is at (HearsTake x k Got jobs) = called at (is_empty jobs) (k + 1 == m.sizes.collect_bags) x k
  flush_heard _ _ is at (Gives x k jobs) = called at (is_empty jobs) (k + 1 == m.sizes.collect_bags) x k

-- A DEFERRAL THAT PUTS NOTHING

abbrev pub IsKeeping : Stage → Type 0
IsKeeping Keep = Unit {0}
IsKeeping End = Unit {0}
IsKeeping _ = ⊥

abbrev pub Keeping : Machine Deferral → Type 0
Keeping m = IsKeeping m.stage × (m.full ≡ false)

-- and neither does a deferral that has room
pub keeps_still : (s : Stage) → IsKeeping s → IsStill s
keeps_still Keep at = tt
keeps_still End at = tt
keeps_still _ at = absurd at

-- each step of it leaves one
pub keep_heard : (m : Machine Deferral) (s : Stage) (next : Machine Deferral) → m.stage ≡ s → IsKeeping s
    → m.full ≡ false → Heard m s next → Keeping next
keep_heard m Keep _ is at room (Hears _ (Job job)) = (tt, room)
keep_heard m Keep _ is at room (Hears _ a) = (subst IsKeeping (sym is) at, room)
keep_heard m End _ is at room (Hears _ a) = (subst IsKeeping (sym is) at, room)
keep_heard m _ _ is at room (Hears _ a) = absurd at
keep_heard m _ _ is at room (HearsPut seal step) = absurd at
keep_heard m _ _ is at room (HearsTake x k step jobs) = absurd at
keep_heard m _ _ is at room (Gives x k jobs) = absurd at
