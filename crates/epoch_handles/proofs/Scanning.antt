-- A scan, word by word: what the loop over the positions performs is what the machine asks.
use Rattle.std.proofs.Common.{◌≡◌, ◌∙◌, ℕ, ◌+◌, ◌-◌, ◌<◌, ◌≤◌, ◌^◌, ◌==◌, if◌then◌else◌, Bool, true, false, [], ◌∷◌}
use Rattle.std.proofs.Common.{refl, sym, ap, subst, arith, inl, inr, ne_eqb, Some}
use Rattle.std.proofs.lemmas.Bool.{eq-eqb}
use Rattle.std.proofs.lemmas.Bool.Decides.{nat_tests}
use Rattle.epoch_tables.specs.Table.{IsWord, LetsPass}
use Rattle.epoch_tables.specs.TableSteps.{after_epoch, after_word, after_pass, after_advance, scan_after}
use Rattle.epoch_bags.specs.declared.job.Job.{Job}
use Rattle.epoch_tables.specs.declared.table.view.ParticipantView.{ParticipantView}
use Rattle.epoch_machine.specs.declared.machine.Answer.TheVariants.{Epoch, Word, Stored}
use Rattle.epoch_machine.specs.declared.machine.Ask.TheVariants.{LoadEpoch, LoadWord, StoreEpoch}
use Rattle.epoch_machine.specs.declared.machine.Stage.{Stage}
use Rattle.epoch_machine.specs.declared.machine.Stage.TheVariants.{LoadScan, Scan, Advance, Take}
use Rattle.epoch_handles.specs.declared.local.Local.{Local}
use Rattle.epoch_machine.specs.Machine.{Machine, with_stage, holds_up, scanned, past_word}
use Rattle.epoch_machine.specs.Asks.{Heard}
use Rattle.epoch_handles.specs.Drives.{Sight, NoJob, Performed, Reaches, situated, at_start, with_words}
use Rattle.epoch_handles.specs.Handles.{IsSeated, IsSame, IsPinned, KeepsPin, Steps, Scans, sight_of}
use Rattle.epoch_handles.proofs.Driving.{one_performed, reaches_on}
use Rattle.epoch_handles.proofs.StraightCalls.{sight_after, seated_with, still_read}

-- where a scan of e stands that has passed the positions below k
abbrev pub at_scan : ℕ → ℕ → ℕ → Stage
at_scan positions e k = if k == positions then scanned e else Scan e k

-- WHAT A WORD SAYS

-- a word that does not hold the scan up lets it pass
pub lets_pass : (e w : ℕ) → IsWord w → holds_up e w ≡ false → LetsPass e w
lets_pass e w (inl free) low = inl free
lets_pass e w (inr (inl unpinned)) low = inr (inl unpinned)
lets_pass e w (inr (inr (published, is))) low = inr (inr (grind (arith, nat_tests)))

-- and one that holds it up does not
pub doesnt_let_pass : (e w : ℕ) → holds_up e w ≡ true → ¬ LetsPass e w
doesnt_let_pass e w high (inl free) = grind (arith, nat_tests)
doesnt_let_pass e w high (inr (inl unpinned)) = grind (arith, nat_tests)
doesnt_let_pass e w high (inr (inr own)) = grind (arith, nat_tests)

-- ONE STEP OF THE SCAN

module _ {J : Type 0} where
  -- a scan that stands at a position asks for its word
  scan_goes_on : (places positions : ℕ) (m : Machine J) (v u : Sight J) (e k w : ℕ)
      → m.sizes.positions ≡ positions
      → k < positions
      → IsWord w
      → v.words.scan ≡ Some (e, k)
      → (LetsPass e w → u ≡ with_words v (after_pass v.words e k w))
      × ((¬ LetsPass e w) → u ≡ with_words v (after_word v.words k w))
      → Performed places (situated (with_stage m (at_scan positions e k)) v at_start)
      (record { ask = LoadWord k; reply = Heard (Word w) }
      ∷ []) (situated (with_stage m (past_word positions e k w)) u at_start)
  scan_goes_on places positions m v u e k w sizes within is_word scan found =
      subst (λ (s : Stage). Performed places (situated (with_stage m s) v at_start)
      (record { ask = LoadWord k; reply = Heard (Word w) }
      ∷ []) (situated (with_stage m (past_word positions e k w)) u at_start))
      (sym (ap (λ (b : Bool). if b then scanned e else Scan e k) (ne_eqb k positions (λ is. absurd (omega arith)))))
      (one_performed places _ _ _ (record {
        asked = refl;
        is_reply = tt;
        performs = (is_word, refl, (e, scan, found.0, found.1));
        machine = ap (λ (n : ℕ). with_stage m (past_word n e k w)) (sym sizes);
      }))

-- after the last position the scan is over
behind_last : (positions e : ℕ) → at_scan positions e positions ≡ scanned e
behind_last positions e = ap (λ (b : Bool). if b then scanned e else Scan e positions) (eq-eqb positions positions refl)

-- THE LOOP

-- the scan of a handle for e stands after the positions below k
pub record HasPassed {T W : Type 0} (h : Local T W) (e k : ℕ) (n : Local T W) : Type 0 where
  pub seated : IsSeated n
  pub same : IsSame h n
  pub pin : KeepsPin h n
  pub claimer : n.claimer ≡ h.claimer
  pub machine : n.machine ≡ h.machine
  pub scan : n.seat.me.0.scan ≡ Some (e, k)
  pub reaches : Reaches NoJob h.collector.now.places.capacity h.machine (sight_of h)
      (situated (with_stage h.machine (at_scan h.machine.sizes.positions e k)) (sight_of n) at_start)

module _ {T W : Type 0} where
  -- a scan that begins has passed no position
  pub scan_begins : (h n : Local T W) (e : ℕ)
      → IsPinned h.seat.me.0
      → h.machine.stage ≡ LoadScan
      → 0 < h.machine.sizes.positions
      → h.seat.me.0.seen ≤ e
      → Steps h n (after_epoch h.seat.me.0 e)
      → HasPassed h e 0 n
  scan_begins h n e pinned begins some rises steps =
      let published = pinned.published in
      record {
        seated = steps.seated;
        same = record { position = steps.position; collector = steps.collector };
        pin = record {
          published = ap (λ (z : ParticipantView). z.published) steps.knows;
          read = still_read h n e pinned.read.0 published.0 published.1 pinned.read.1 steps ∙ sym pinned.read.1;
        };
        claimer = steps.claimer;
        machine = steps.machine;
        scan = ap (λ (z : ParticipantView). z.scan) steps.knows ∙ ap (λ z. scan_after z e) published.1;
        reaches = λ c. (
          record { ask = LoadEpoch; reply = Heard (Epoch e) } ∷ [],
          subst (λ (s : Stage). Performed h.collector.now.places.capacity
              (situated (record h.machine { stage = s }) (sight_of h) c)
              (record { ask = LoadEpoch; reply = Heard (Epoch e) } ∷ [])
              (situated (with_stage h.machine (at_scan h.machine.sizes.positions e 0)) (sight_of n) at_start))
              (sym begins) (one_performed h.collector.now.places.capacity _ _ _ (record {
                asked = refl;
                is_reply = tt;
                performs = (rises, sight_after h n _ steps, refl);
                machine = ap (λ (b : Bool). with_stage h.machine (if b then scanned e else Scan e 0))
                    (ne_eqb 0 h.machine.sizes.positions (λ is. absurd (omega arith)));
              })),
          (tt, tt),
        );
      }

  -- what is performed at a position, whatever its word says
  word_performed : (h n o : Local T W) (e k w : ℕ)
      → HasPassed h e k n
      → k < h.machine.sizes.positions
      → IsWord w
      → (LetsPass e w → Steps n o (after_pass n.seat.me.0 e k w))
      × ((¬ LetsPass e w) → Steps n o (after_word n.seat.me.0 k w))
      → Reaches NoJob h.collector.now.places.capacity h.machine (sight_of h)
      (situated (with_stage h.machine (past_word h.machine.sizes.positions e k w)) (sight_of o) at_start)
  word_performed h n o e k w passed within is_word found =
      reaches_on NoJob h.collector.now.places.capacity h.machine (sight_of h) _ _
      passed.reaches (record { ask = LoadWord k; reply = Heard (Word w) } ∷ [])
      (scan_goes_on h.collector.now.places.capacity h.machine.sizes.positions h.machine (sight_of n)
      (sight_of o) e k w refl within is_word passed.scan
      (λ lets. sight_after n o _ (found.0 lets), λ holds. sight_after n o _ (found.1 holds))) (tt, tt)

  -- a scan that finds a word that lets it pass has passed one position more
  pub scan_passes : (h n o : Local T W) (e k w : ℕ)
      → HasPassed h e k n
      → k < h.machine.sizes.positions
      → IsWord w
      → holds_up e w ≡ false
      → (LetsPass e w → Steps n o (after_pass n.seat.me.0 e k w))
      × ((¬ LetsPass e w) → Steps n o (after_word n.seat.me.0 k w))
      → HasPassed h e (k + 1) o
  scan_passes h n o e k w passed within is_word low found =
      let steps = found.0 (lets_pass e w is_word low) in
      record {
        seated = steps.seated;
        same = record {
          position = steps.position ∙ passed.same.position;
          collector = steps.collector ∙ passed.same.collector;
        };
        pin = record {
          published = ap (λ (z : ParticipantView). z.published) steps.knows ∙ passed.pin.published;
          read = ap (λ (z : ParticipantView). z.first_read) steps.knows ∙ passed.pin.read;
        };
        claimer = steps.claimer ∙ passed.claimer;
        machine = steps.machine ∙ passed.machine;
        scan = ap (λ (z : ParticipantView). z.scan) steps.knows;
        reaches = subst (λ (b : Bool). Reaches NoJob h.collector.now.places.capacity h.machine (sight_of h)
            (situated (with_stage h.machine (if b then Take e 0
            else (if k + 1 == h.machine.sizes.positions then scanned e else Scan e (k + 1)))) (sight_of o) at_start))
            low (word_performed h n o e k w passed within is_word found);
      }

  -- the machine goes on to the bags, and all else of the participant stays
  goes_to_bags : (h n : Local T W) (x : ℕ) (m : Machine (Job W))
      → IsSeated n
      → IsSame h n
      → KeepsPin h n
      → n.claimer ≡ h.claimer
      → n.machine ≡ h.machine
      → m ≡ with_stage n.machine (Take x 0)
      → Reaches NoJob h.collector.now.places.capacity h.machine (sight_of h)
      (situated (with_stage h.machine (Take x 0)) (sight_of n) at_start)
      → Scans h x (record n { machine = m })
  goes_to_bags h n x m seated same pin claimer machine is reaches =
      let goes : m ≡ with_stage h.machine (Take x 0) = is
      ∙ ap (λ (z : Machine (Job W)). with_stage z (Take x 0)) machine in
      record {
        seated = seated_with n m (ap (λ (z : Machine (Job W)). z.sizes) is) seated;
        same = record { position = same.position; collector = same.collector };
        pin = record { published = pin.published; read = pin.read };
        claimer = claimer;
        machine = goes;
        reaches = subst (λ (z : Machine (Job W)). Reaches NoJob h.collector.now.places.capacity h.machine (sight_of h)
            (situated z (sight_of n) at_start)) (sym goes) reaches;
      }

  -- a word that is pinned elsewhere ends the scan
  pub scan_stops : (h n o : Local T W) (e k w : ℕ) (m : Machine (Job W))
      → HasPassed h e k n
      → k < h.machine.sizes.positions
      → IsWord w
      → holds_up e w ≡ true
      → (LetsPass e w → Steps n o (after_pass n.seat.me.0 e k w))
      × ((¬ LetsPass e w) → Steps n o (after_word n.seat.me.0 k w))
      → m ≡ with_stage o.machine (Take e 0)
      → Scans h e (record o { machine = m })
  scan_stops h n o e k w m passed within is_word high found is =
      let steps = found.1 (doesnt_let_pass e w high) in
      goes_to_bags h o e m steps.seated
      (record { position = steps.position ∙ passed.same.position; collector = steps.collector ∙ passed.same.collector })
      (record {
        published = ap (λ (z : ParticipantView). z.published) steps.knows ∙ passed.pin.published;
        read = ap (λ (z : ParticipantView). z.first_read) steps.knows ∙ passed.pin.read;
      })
      (steps.claimer ∙ passed.claimer) (steps.machine ∙ passed.machine) is
      (subst (λ (b : Bool). Reaches NoJob h.collector.now.places.capacity h.machine (sight_of h)
      (situated (with_stage h.machine (if b then Take e 0
      else (if k + 1 == h.machine.sizes.positions then scanned e else Scan e (k + 1)))) (sight_of o) at_start))
      high (word_performed h n o e k w passed within is_word found))

  -- after the last word of the greatest epoch nothing is stored
  pub scan_greatest : (h n : Local T W) (e : ℕ) (m : Machine (Job W))
      → HasPassed h e h.machine.sizes.positions n
      → e ≡ 2 ^ 63 - 1
      → m ≡ with_stage n.machine (Take e 0)
      → Scans h e (record n { machine = m })
  scan_greatest h n e m passed greatest is =
      goes_to_bags h n e m passed.seated passed.same passed.pin passed.claimer passed.machine is
      (subst (λ (s : Stage). Reaches NoJob h.collector.now.places.capacity h.machine (sight_of h)
      (situated (with_stage h.machine s) (sight_of n) at_start))
      (behind_last h.machine.sizes.positions e
      ∙ ap (λ (b : Bool). if b then Take e 0 else Advance e) (eq-eqb e (2 ^ 63 - 1) greatest)) passed.reaches)

  -- after the last word the epoch is stored
  pub scan_advances : (h n o : Local T W) (e : ℕ) (m : Machine (Job W))
      → HasPassed h e h.machine.sizes.positions n
      → e < 2 ^ 63 - 1
      → n.seat.me.0.seen ≤ e + 1
      → Steps n o (after_advance n.seat.me.0 (e + 1))
      → m ≡ with_stage o.machine (Take (e + 1) 0)
      → Scans h (e + 1) (record o { machine = m })
  scan_advances h n o e m passed less ahead steps is =
      let advances : at_scan h.machine.sizes.positions e h.machine.sizes.positions ≡ Advance e =
      behind_last h.machine.sizes.positions e
      ∙ ap (λ (b : Bool). if b then Take e 0 else Advance e) (ne_eqb e (2 ^ 63 - 1) (λ same. absurd (omega arith))) in
      goes_to_bags h o (e + 1) m steps.seated
      (record { position = steps.position ∙ passed.same.position; collector = steps.collector ∙ passed.same.collector })
      (record {
        published = ap (λ (z : ParticipantView). z.published) steps.knows ∙ passed.pin.published;
        read = ap (λ (z : ParticipantView). z.first_read) steps.knows ∙ passed.pin.read;
      })
      (steps.claimer ∙ passed.claimer) (steps.machine ∙ passed.machine) is
      (reaches_on NoJob h.collector.now.places.capacity h.machine (sight_of h) _ _
      passed.reaches (record { ask = StoreEpoch (e + 1); reply = Heard Stored } ∷ [])
      (subst (λ (s : Stage). Performed h.collector.now.places.capacity
      (situated (with_stage h.machine s) (sight_of n) at_start)
      (record { ask = StoreEpoch (e + 1); reply = Heard Stored }
      ∷ []) (situated (with_stage h.machine (Take (e + 1) 0)) (sight_of o) at_start)) (sym advances)
      (one_performed h.collector.now.places.capacity _ _ _
      (record { asked = refl; is_reply = tt; performs = (ahead, sight_after n o _ steps, refl); machine = refl })))
      (tt, tt))
