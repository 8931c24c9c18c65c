-- How the steps of a participant over one place are told, one after the other.
use Rattle.std.proofs.Common.{◌≡◌, ℕ, ◌+◌, ◌*◌, ◌≤◌, List, [], ◌∷◌, Some, None, refl, arith}
use Rattle.epoch_bags.specs.Bags.{Sealed, IsExpired}
use Rattle.epoch_bags.specs.CursorSteps.{IsExpiredWord}
use Rattle.epoch_bags.specs.declared.queue.PutStep.TheVariants.{Again as PutAgain, Done}
use Rattle.epoch_bags.specs.declared.queue.TakeStep.TheVariants.{Again as TakeAgain, Empty as TakeEnds, Got}
use Rattle.epoch_bags.specs.declared.queue.places.PutCursor.{PutCursor}
use Rattle.epoch_bags.specs.declared.queue.places.PutCursor.TheVariants.{Look as PutLook, Claim as PutClaim, Fill}
use Rattle.epoch_bags.specs.declared.queue.places.TakeCursor.{TakeCursor}
use Rattle.epoch_bags.specs.declared.queue.places.TakeCursor.TheVariants.{Look as TakeLook, Claim as TakeClaim, Empty}
use Rattle.epoch_tables.specs.Table.{IsWord, LetsPass}
use Rattle.epoch_tables.specs.TableSteps.{after_epoch, after_own, after_free, after_word, after_pass}
use Rattle.epoch_tables.specs.TableSteps.{after_advance}
use Rattle.epoch_tables.specs.SharedPlaces.{PlaceMe, after_look, after_place_claim, after_store}
use Rattle.epoch_tables.specs.declared.table.view.ParticipantView.{ParticipantView}
use Rattle.epoch_tables.specs.declared.shared_places.view.PlaceView.{PlaceView}
use Rattle.epoch_machine.specs.declared.machine.Ask.TheVariants.{LoadEpoch, LoadWord, StorePinned, StoreRepinned}
use Rattle.epoch_machine.specs.declared.machine.Ask.TheVariants.{StoreUnpinned, StoreFree, StoreEpoch, PutBag, TakeBag}
use Rattle.epoch_machine.specs.declared.machine.Ask.TheVariants.{KeepJob, CallJob}
use Rattle.epoch_machine.specs.declared.machine.Answer.TheVariants.{Epoch, Word, Stored, Job}
use Rattle.epoch_machine.specs.Machine.{Machine, asks, rest}
use Rattle.epoch_machine.specs.Asks.{Heard, PutStepped, TakeStepped, JobGiven, Exchange, Log, told}
use Rattle.epoch_handles.specs.Drives.{Sight, Cursors, at_start, Situation, situated, Exchanges, Performed}
use Rattle.epoch_handles.specs.ThreadGrace.{GetsBags, PerformedWithBags}

-- from one situation to another: what is asked, and which bags are got
abbrev pub To : {J : Type 0} → Situation J → Situation J → Type 0
To {J} last before = (log : Log J) × (bags : List (Sealed J)) × PerformedWithBags 1 before log bags last

abbrev pub nothing : {J : Type 0} {last : Situation J} → To last last
nothing = ([], [], (refl, refl))

-- the same without the bags
without_bags : {J : Type 0} (before last : Situation J) (log : Log J) (bags : List (Sealed J))
    → PerformedWithBags 1 before log bags last → Performed 1 before log last
without_bags before last [] bags did = did.0
without_bags before last (x ∷ log) bags (next, did, (got, more, gets, all, later)) =
    (next, did, without_bags next last log more later)

-- what is asked between two situations is performed, whichever bags are got
pub plainly : {J : Type 0} (before last : Situation J) (goes : To last before) → Performed 1 before goes.0 last
plainly before last goes = without_bags before last goes.0 goes.1 goes.2

abbrev pub knows : {J : Type 0} → ParticipantView → PlaceMe J → Sight J
knows words places = record { words = words; places = places }

abbrev pub cursors : PutCursor → TakeCursor → Cursors
cursors put take = record { put = put; take = take }

-- a step that answers so has got no bag
pub ends_empty : TakeEnds ≡ Got → ⊥
ends_empty same = cc same

-- a step after which the collection goes on has got no bag either
pub goes_on : TakeAgain ≡ Got → ⊥
goes_on same = cc same

-- the first place isn't past the last one
pub not_past : (place : ℕ) → place ≡ place + 1 → ⊥
not_past place same = omega (arith, same)

abbrev no_bag : {J : Type 0} → Sealed J
no_bag = record { seal = 0; jobs = [] }

module _ {J : Type 0} {last : Situation J} where
  -- a step that gets no bag
  abbrev pub by : {before : Situation J} (next : Situation J) (x : Exchange J) → Exchanges 1 before x next
      → GetsBags before.sight x.reply [] → To last next → To last before
  by next x did none more = (x ∷ more.0, more.1, (next, did, ([], more.1, none, refl, more.2)))

  -- THE PARTICIPANTS' TABLE

  abbrev pub by_epoch : {m : Machine J} {v : ParticipantView} {me : PlaceMe J} {c : Cursors} (e : ℕ)
      → asks m ≡ Some LoadEpoch → v.seen ≤ e
      → To last (situated (told m (Heard (Epoch e))) (knows (after_epoch v e) me) at_start)
      → To last (situated m (knows v me) c)
  by_epoch {m} {v} {me} {c} e asked above more =
      by (situated (told m (Heard (Epoch e))) (knows (after_epoch v e) me) at_start)
      (record { ask = LoadEpoch; reply = Heard (Epoch e) })
      (record { asked = asked; is_reply = tt; performs = (above, refl, refl); machine = refl }) refl more

  abbrev pub by_pin : {m : Machine J} {v : ParticipantView} {me : PlaceMe J} {c : Cursors} (e : ℕ)
      → asks m ≡ Some (StorePinned e) → e ≤ v.seen
      → To last (situated (told m (Heard Stored)) (knows (after_own v (Some e)) me) c)
      → To last (situated m (knows v me) c)
  by_pin {m} {v} {me} {c} e asked above more =
      by (situated (told m (Heard Stored)) (knows (after_own v (Some e)) me) c)
      (record { ask = StorePinned e; reply = Heard Stored })
      (record { asked = asked; is_reply = tt; performs = (above, refl, refl); machine = refl }) refl more

  abbrev pub by_repin : {m : Machine J} {v : ParticipantView} {me : PlaceMe J} {c : Cursors} (e : ℕ)
      → asks m ≡ Some (StoreRepinned e) → e ≤ v.seen
      → To last (situated (told m (Heard Stored)) (knows (after_own v (Some e)) me) c)
      → To last (situated m (knows v me) c)
  by_repin {m} {v} {me} {c} e asked above more =
      by (situated (told m (Heard Stored)) (knows (after_own v (Some e)) me) c)
      (record { ask = StoreRepinned e; reply = Heard Stored })
      (record { asked = asked; is_reply = tt; performs = (above, refl, refl); machine = refl }) refl more

  abbrev pub by_unpin : {m : Machine J} {v : ParticipantView} {me : PlaceMe J} {c : Cursors}
      → asks m ≡ Some StoreUnpinned
      → To last (situated (told m (Heard Stored)) (knows (after_own v None) me) c)
      → To last (situated m (knows v me) c)
  by_unpin {m} {v} {me} {c} asked more =
      by (situated (told m (Heard Stored)) (knows (after_own v None) me) c)
      (record { ask = StoreUnpinned; reply = Heard Stored })
      (record { asked = asked; is_reply = tt; performs = (refl, refl); machine = refl }) refl more

  abbrev pub by_free : {m : Machine J} {v : ParticipantView} {me : PlaceMe J} {c : Cursors} → asks m ≡ Some StoreFree
      → To last (situated (told m (Heard Stored)) (knows (after_free v) me) c)
      → To last (situated m (knows v me) c)
  by_free {m} {v} {me} {c} asked more =
      by (situated (told m (Heard Stored)) (knows (after_free v) me) c)
      (record { ask = StoreFree; reply = Heard Stored })
      (record { asked = asked; is_reply = tt; performs = (refl, refl); machine = refl }) refl more

  -- a scan passes this word at a position
  abbrev pub by_pass : {m : Machine J} {v : ParticipantView} {me : PlaceMe J} {c : Cursors} (e k w : ℕ)
      → asks m ≡ Some (LoadWord k) → v.scan ≡ Some (e, k) → IsWord w → LetsPass e w
      → To last (situated (told m (Heard (Word w))) (knows (after_pass v e k w) me) c)
      → To last (situated m (knows v me) c)
  by_pass {m} {v} {me} {c} e k w asked scan is lets more =
      by (situated (told m (Heard (Word w))) (knows (after_pass v e k w) me) c)
      (record { ask = LoadWord k; reply = Heard (Word w) }) (record {
        asked = asked;
        is_reply = tt;
        performs = (is, refl, (e, scan, (λ passes. refl), (λ not. absurd (not lets))));
        machine = refl;
      }) refl more

  -- this word at a position holds a scan up
  abbrev pub by_stop : {m : Machine J} {v : ParticipantView} {me : PlaceMe J} {c : Cursors} (e k w : ℕ)
      → asks m ≡ Some (LoadWord k) → v.scan ≡ Some (e, k) → IsWord w → ¬ (LetsPass e w)
      → To last (situated (told m (Heard (Word w))) (knows (after_word v k w) me) c)
      → To last (situated m (knows v me) c)
  by_stop {m} {v} {me} {c} e k w asked scan is stops more =
      by (situated (told m (Heard (Word w))) (knows (after_word v k w) me) c)
      (record { ask = LoadWord k; reply = Heard (Word w) }) (record {
        asked = asked;
        is_reply = tt;
        performs = (is, refl, (e, scan, (λ passes. absurd (stops passes)), (λ not. refl)));
        machine = refl;
      }) refl more

  abbrev pub by_advance : {m : Machine J} {v : ParticipantView} {me : PlaceMe J} {c : Cursors} (e : ℕ)
      → asks m ≡ Some (StoreEpoch e) → v.seen ≤ e
      → To last (situated (told m (Heard Stored)) (knows (after_advance v e) me) c)
      → To last (situated m (knows v me) c)
  by_advance {m} {v} {me} {c} e asked above more =
      by (situated (told m (Heard Stored)) (knows (after_advance v e) me) c)
      (record { ask = StoreEpoch e; reply = Heard Stored })
      (record { asked = asked; is_reply = tt; performs = (above, refl, refl); machine = refl }) refl more

  -- JOBS

  abbrev pub by_job : {m : Machine J} {at : Sight J} {c : Cursors} (job : J) → asks m ≡ Some KeepJob
      → To last (situated (told m (Heard (Job job))) at c) → To last (situated m at c)
  by_job {m} {at} {c} job asked more =
      by (situated (told m (Heard (Job job))) at c) (record { ask = KeepJob; reply = Heard (Job job) })
      (record { asked = asked; is_reply = tt; performs = (refl, refl); machine = refl }) refl more

  abbrev pub by_call : {m : Machine J} {at : Sight J} {c : Cursors} (job : J) → asks m ≡ Some CallJob
      → m.hand ≡ job ∷ rest m.hand
      → To last (situated (told m (JobGiven job)) at c) → To last (situated m at c)
  by_call {m} {at} {c} job asked first more =
      by (situated (told m (JobGiven job)) at c) (record { ask = CallJob; reply = JobGiven job })
      (record { asked = asked; is_reply = first; performs = (refl, refl); machine = refl }) refl more

  -- THE PLACE

  -- A put looks at the place, which is empty, claims it, and fills it.
  abbrev pub by_put : {m : Machine J} {v : ParticipantView} {p : PlaceView J} {take : TakeCursor} (seal : ℕ)
      → asks m ≡ Some (PutBag seal)
      → To last (situated (told m (PutStepped Done))
      (knows v (
        after_store (after_place_claim (after_look p 0 0) 0 0 None)
            (Some (record { seal = seal; jobs = m.held })),
        [],
      )) (cursors (Fill 0) take))
      → To last (situated m (knows v (p, [])) (cursors (PutLook 0) take))
  by_put {m} {v} {p} {take} seal asked more =
      by (situated m (knows v (after_look p 0 0, [])) (cursors (PutClaim 0) take))
      (record { ask = PutBag seal; reply = PutStepped PutAgain }) (record {
        asked = asked;
        is_reply = tt;
        performs = (refl, refl, (0, refl, (λ free. (refl, refl)), (λ not. absurd (not refl))));
        machine = refl;
      }) refl
      (by (situated m (knows v (after_place_claim (after_look p 0 0) 0 0 None, (0, None) ∷ []))
      (cursors (Fill 0) take))
      (record { ask = PutBag seal; reply = PutStepped PutAgain }) (record {
        asked = asked;
        is_reply = tt;
        performs = (refl, refl, (0, (λ free. ((None, refl, refl), refl, refl)), (λ not. absurd (not refl))));
        machine = refl;
      }) refl
      (by (situated (told m (PutStepped Done))
      (knows v (
        after_store (after_place_claim (after_look p 0 0) 0 0 None)
            (Some (record { seal = seal; jobs = m.held })),
        [],
      )) (cursors (Fill 0) take))
      (record { ask = PutBag seal; reply = PutStepped Done }) (record {
        asked = asked;
        is_reply = tt;
        performs = (refl, refl, (refl, refl));
        machine = refl;
      }) refl more))

  -- a collection finds no expired bag at the place
  abbrev pub by_none : {m : Machine J} {v : ParticipantView} {p : PlaceView J} {put : PutCursor} (x word : ℕ)
      → asks m ≡ Some (TakeBag x) → ¬ (IsExpiredWord x word)
      → To last (situated (told m (TakeStepped TakeEnds [])) (knows v (after_look p 0 word, []))
      (cursors put (TakeLook 1)))
      → To last (situated m (knows v (p, [])) (cursors put (TakeLook 0)))
  by_none {m} {v} {p} {put} x word asked not_expired more =
      by (situated (told m (TakeStepped TakeEnds [])) (knows v (after_look p 0 word, [])) (cursors put (TakeLook 1)))
      (record { ask = TakeBag x; reply = TakeStepped TakeEnds [] }) (record {
        asked = asked;
        is_reply = tt;
        performs = (
          refl,
          refl,
          (
            no_bag,
            (λ same. absurd (ends_empty same)),
            (
              (λ none_left. absurd (not_past 0 none_left)),
              (λ some_left. (word, refl, (λ expired. absurd (not_expired expired)), (λ not. (refl, refl)))),
            ),
          ),
        );
        machine = refl;
      }) refl more

  -- a collection finds this word, which is that of an expired bag
  abbrev pub by_look : {m : Machine J} {v : ParticipantView} {p : PlaceView J} {put : PutCursor} (x seal : ℕ)
      → asks m ≡ Some (TakeBag x) → seal + 2 ≤ x
      → To last (situated (told m (TakeStepped TakeAgain [])) (knows v (after_look p 0 (2 * seal + 1), []))
      (cursors put (TakeClaim 0 (2 * seal + 1))))
      → To last (situated m (knows v (p, [])) (cursors put (TakeLook 0)))
  by_look {m} {v} {p} {put} x seal asked expired more =
      by (situated (told m (TakeStepped TakeAgain [])) (knows v (after_look p 0 (2 * seal + 1), []))
      (cursors put (TakeClaim 0 (2 * seal + 1))))
      (record { ask = TakeBag x; reply = TakeStepped TakeAgain [] }) (record {
        asked = asked;
        is_reply = tt;
        performs = (
          refl,
          refl,
          (
            no_bag,
            (λ same. absurd (goes_on same)),
            (
              (λ none_left. absurd (not_past 0 none_left)),
              (λ some_left. (2 * seal + 1, refl, (λ is. (refl, refl)), (λ not. absurd (not (seal, refl, expired))))),
            ),
          ),
        );
        machine = refl;
      }) refl more

  -- it claims the place of this bag
  abbrev pub by_claim : {m : Machine J} {v : ParticipantView} {p : PlaceView J} {put : PutCursor} (x : ℕ)
      (bag : Sealed J) → asks m ≡ Some (TakeBag x)
      → To last (situated (told m (TakeStepped TakeAgain []))
      (knows v (after_place_claim p 0 (2 * bag.seal + 1) (Some bag), (0, Some bag) ∷ [])) (cursors put (Empty 0)))
      → To last (situated m (knows v (p, [])) (cursors put (TakeClaim 0 (2 * bag.seal + 1))))
  by_claim {m} {v} {p} {put} x bag asked more =
      by (situated (told m (TakeStepped TakeAgain []))
      (knows v (after_place_claim p 0 (2 * bag.seal + 1) (Some bag), (0, Some bag) ∷ [])) (cursors put (Empty 0)))
      (record { ask = TakeBag x; reply = TakeStepped TakeAgain [] }) (record {
        asked = asked;
        is_reply = tt;
        performs = (
          refl,
          refl,
          (
            no_bag,
            (λ same. absurd (goes_on same)),
            (2 * bag.seal + 1, (λ won. ((Some bag, refl, refl), refl, refl)), (λ lost. absurd (lost refl))),
          ),
        );
        machine = refl;
      }) refl more

  -- it empties the place, and has got this bag
  abbrev pub by_got : {m : Machine J} {v : ParticipantView} {p : PlaceView J} {put : PutCursor} (x : ℕ) (bag : Sealed J)
      → asks m ≡ Some (TakeBag x) → IsExpired x bag
      → To last (situated (told m (TakeStepped Got bag.jobs)) (knows v (after_store p None, []))
      (cursors put (TakeLook 1)))
      → To last (situated m (knows v (p, (0, Some bag) ∷ [])) (cursors put (Empty 0)))
  by_got {m} {v} {p} {put} x bag asked expired more = (
    record { ask = TakeBag x; reply = TakeStepped Got bag.jobs } ∷ more.0,
    bag ∷ more.1,
    (
      situated (told m (TakeStepped Got bag.jobs)) (knows v (after_store p None, [])) (cursors put (TakeLook 1)),
      record {
        asked = asked;
        is_reply = tt;
        performs = (refl, refl, (bag, (λ same. refl), (refl, refl, (refl, refl, expired))));
        machine = refl;
      },
      (bag ∷ [], more.1, (0, bag, refl, refl, refl), refl, more.2),
    ),
  )
