-- A deferral: a job is kept in the held bag, after a put of the bag where it is full.
use Rattle.std.proofs.Common.{◌≡◌, ◌∙◌, ℕ, ◌<◌, ◌⊎◌, if◌then◌else◌, Bool, true, false, List, [], ◌∷◌, ◌++◌, length}
use Rattle.std.proofs.Common.{refl, sym, ap, subst, arith, inl, inr, ne_eqb, Some}
use Rattle.std.proofs.lemmas.Bool.{eq-eqb, true≢false}
use Rattle.epoch_tables.specs.SharedSteps.{RestsAt}
use Rattle.epoch_bags.specs.declared.job.Job.{Job}
use Rattle.epoch_machine.specs.declared.machine.Action.TheVariants.{Defer}
use Rattle.epoch_machine.specs.declared.machine.Answer.TheVariants.{Job as Deferred}
use Rattle.epoch_machine.specs.declared.machine.Ask.TheVariants.{KeepJob}
use Rattle.epoch_machine.specs.declared.machine.Stage.{Stage}
use Rattle.epoch_machine.specs.declared.machine.Stage.TheVariants.{Idle, LoadSeal, Keep, End}
use Rattle.epoch_handles.specs.declared.local.Local.{Local}
use Rattle.epoch_machine.specs.Machine.{Machine, begun, heard, ended, after_put}
use Rattle.epoch_machine.specs.Asks.{Heard}
use Rattle.epoch_handles.specs.Drives.{Sight, NoJob, Drives}
use Rattle.epoch_handles.specs.Handles.{IsSeated, IsReady}
use Rattle.epoch_handles.proofs.Driving.{one_performed}
use Rattle.epoch_handles.proofs.StraightCalls.{reading, ready_with}

-- HOW IT BEGINS

module _ {J : Type 0} where
  -- with room left the job is kept at once
  pub keep_begins : (m : Machine J) → length m.held < m.sizes.bag_jobs → (begun Defer m).stage ≡ Keep
  keep_begins m room = ap (λ (b : Bool). if b then LoadSeal else Keep)
      (ne_eqb (length m.held) m.sizes.bag_jobs (λ full. absurd (omega arith)))

  -- a full bag is put
  pub put_comes_first : (m : Machine J) → length m.held ≡ m.sizes.bag_jobs → (begun Defer m).stage ≡ LoadSeal
  put_comes_first m full =
      ap (λ (b : Bool). if b then LoadSeal else Keep) (eq-eqb (length m.held) m.sizes.bag_jobs full)

  -- HOW THE JOB IS KEPT

  -- the machine m after a deferral that kept this job after these others
  abbrev pub with_kept : Machine J → List J → J → Machine J
  with_kept m held job = record m { stage = End; action = Defer; full = false; held = held ++ job ∷ [] }

  -- a deferral with room in the held bag adds its job there, and changes nothing else of the machine
  pub job_kept : (m b n : Machine J) (job : J)
      → length m.held < m.sizes.bag_jobs → b ≡ begun Defer m → n ≡ heard b (Deferred job) → n ≡ with_kept m m.held job
  job_kept m b n job room begins is = is ∙ ap (λ (z : Machine J). heard z (Deferred job)) begins
      ∙ ap (λ (s : Stage). heard (record (begun Defer m) { stage = s }) (Deferred job)) (keep_begins m room)

  -- the same, where the call has ended too
  pub kept_at_once : (m n : Machine J) (job : J) → length m.held < m.sizes.bag_jobs
      → n ≡ ended (heard (begun Defer m) (Deferred job)) → n ≡ ended (with_kept m m.held job)
  kept_at_once m n job room is =
      is ∙ ap ended (job_kept m (begun Defer m) (heard (begun Defer m) (Deferred job)) job room refl refl)

  -- keeping the job is what the machine has asked for
  pub keep_performed : (places : ℕ) (m : Machine J) (v : Sight J) (job : J)
      → m.stage ≡ Keep → Drives NoJob places m v (heard m (Deferred job)) v
  keep_performed places m v job at =
      subst (λ (s : Stage).
      let n : Machine J = record m { stage = s } in
      Drives NoJob places n v (heard n (Deferred job)) v) (sym at)
      (λ c. (
        c,
        record { ask = KeepJob; reply = Heard (Deferred job) } ∷ [],
        one_performed places _ _ _ (record { asked = refl; is_reply = tt; performs = (refl, refl); machine = refl }),
        (tt, tt),
      ))

  -- WHAT A PUT LEAVES

  -- The put of the machine b has ended: the bag is in a place, or is still held.
  abbrev pub PutEnded : (b n : Machine J) → Type 0
  PutEnded b n = (n ≡ record b { stage = after_put b.action false; full = false; held = [] })
      ⊎ (n ≡ record b { stage = after_put b.action true; full = true })

  -- where the put before it found no place, a deferral is over, and the held bag stays as it was
  pub found_full : (m b n : Machine J)
      → b ≡ begun Defer m → PutEnded b n → n.full ≡ true → n ≡ record m { stage = End; action = Defer; full = true }
  found_full m b n begins (inl done) full = absurd (true≢false (sym full ∙ ap (λ (z : Machine J). z.full) done))
  found_full m b n begins (inr occupied) full =
      occupied ∙ ap (λ (z : Machine J). record z { stage = after_put z.action true; full = true }) begins

  -- where the put before it found a place, the deferral has an empty bag to keep its job in
  pub found_room : (m b n : Machine J) → b ≡ begun Defer m → PutEnded b n → n.full ≡ false
      → n ≡ record m { stage = Keep; action = Defer; full = false; held = [] }
  found_room m b n begins (inl done) room =
      done ∙ ap (λ (z : Machine J). record z { stage = after_put z.action false; full = false; held = [] }) begins
  found_room m b n begins (inr occupied) room =
      absurd (true≢false (sym (ap (λ (z : Machine J). z.full) occupied) ∙ room))

  -- the job is kept alone in the bag after the one that was put
  pub kept_alone : (m n o : Machine J) (job : J)
      → n ≡ record m { stage = Keep; action = Defer; full = false; held = [] } → o ≡ heard n (Deferred job)
      → o ≡ with_kept m [] job
  kept_alone m n o job at is = is ∙ ap (λ (z : Machine J). heard z (Deferred job)) at

-- WHAT A HANDLE KNOWS

module _ {T W : Type 0} where
  -- after an action that left the pin and the guards as they were
  pub ready_still : (h n : Local T W) (m : Machine (Job W))
      → IsReady h
      → 0 < h.machine.guards
      → IsSeated n
      → RestsAt n.claimer.me
      → n.seat.me.0.published ≡ h.seat.me.0.published
      → n.seat.me.0.first_read ≡ h.seat.me.0.first_read
      → m.sizes ≡ n.machine.sizes
      → m.stage ≡ Idle
      → m.guards ≡ h.machine.guards
      → m.published ≡ h.machine.published
      → IsReady (record n { machine = m })
  ready_still h n m ready out seated rests published read sizes idle counted same =
      let first = reading h.seat.me.0.first_read (ready.agrees.read out) in
      ready_with n m seated rests sizes idle (record {
        published = λ _. published ∙ ready.agrees.published out ∙ ap (λ (z : ℕ). Some z) (sym same);
        read = λ _. (first.0, read ∙ first.1);
        unpinned = λ none. absurd (omega arith);
      })
