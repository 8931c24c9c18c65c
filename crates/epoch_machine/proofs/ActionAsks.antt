-- What a machine asks from the beginning of each action on follows the table.
use Rattle.std.proofs.Common.{◌≡◌, ℕ, ◌+◌, ◌%◌, ◌==◌, true, false, List, [], ◌∷◌, ◌++◌, length, refl, arith}
use Rattle.std.proofs.lemmas.Bool.Decides.{nat_tests}
use Rattle.epoch_machine.specs.declared.machine.Action.{Action}
use Rattle.epoch_machine.specs.declared.machine.Action.TheVariants.{Pin, Unpin, Repin, Defer, Flush, Release}
use Rattle.epoch_machine.specs.declared.machine.Stage.TheVariants.{LoadPin, StorePin, ReloadPin, LoadScan, LoadSeal}
use Rattle.epoch_machine.specs.declared.machine.Stage.TheVariants.{Put, Keep, LoadRepin, StoreRepin, ReloadRepin}
use Rattle.epoch_machine.specs.declared.machine.Stage.TheVariants.{StoreUnpinned, StoreFree, End}
use Rattle.epoch_machine.specs.declared.machine.Ask.TheVariants.{StorePinned, StoreRepinned}
use Rattle.epoch_machine.specs.declared.machine.Ask.TheVariants.{StoreUnpinned as AskUnpinned, StoreFree as AskFree}
use Rattle.epoch_machine.specs.Machine.{Machine, IsSized, with_stage, begun, after_collect, after_put, is_empty, fresh}
use Rattle.epoch_machine.specs.Asks.{Log, Asked, asks_more, Part, AsksNoMore, Choose, AsksStore, AsksKeep, AsksLoad}
use Rattle.epoch_machine.specs.Asks.{AsksPut, AsksPin, AsksLeave, AsksOf}
use Rattle.epoch_machine.proofs.Exchanges.{LogsAre, ends, loads, stores, keeps, put_steps}
use Rattle.epoch_machine.proofs.CollectionAsks.{choice, known, collected, CollectedFollow, collects}

-- a machine that is stopped asks nothing more
stops : {J : Type 0} (m : Machine J) → LogsAre (with_stage m End) AsksNoMore
stops m = ends (with_stage m End) refl

-- PIN

-- the count after a pin is 1 where that before it was a multiple of 128
first_or_128th : (pins : ℕ) → ((pins + 1) % 128 == 1) ≡ (pins % 128 == 0)
first_or_128th pins = grind (arith, nat_tests)

-- the machine that has published e and is to load the epoch once more
abbrev published : {J : Type 0} → Machine J → ℕ → Machine J
published m e = record m { stage = ReloadPin; published = e; pins = (m.pins + 1) % 128 }

pins : {J : Type 0} (m : Machine J) (behind : Part J)
    → IsSized m.sizes
    → ((e : ℕ) → CollectedFollow (published m e) behind)
    → LogsAre (with_stage m LoadPin) (AsksPin m behind)
pins m behind sized next =
    loads (with_stage m LoadPin) _ refl (λ e.
    stores (with_stage m (StorePin e)) (StorePinned e) _ tt refl
    (loads (published m e) _ refl (λ again.
    known (published m e) _ _ LoadScan (after_collect m.action m.held) _ (first_or_128th m.pins)
    (choice (published m e) (m.pins % 128 == 0) LoadScan (after_collect m.action m.held) _ _
    (collects (published m e) behind sized (next e)) (next e m.hand)))))

pin : {J : Type 0} (m : Machine J) → IsSized m.sizes → LogsAre (begun Pin m) (AsksOf Pin m)
pin m sized =
    choice (begun Pin m) (m.guards == 0) LoadPin End _ _
    (pins (begun Pin m) _ sized (λ e hand. stops (collected (published (begun Pin m) e) hand)))
    (stops (begun Pin m))

-- UNPIN AND REPIN

unpin : {J : Type 0} (m : Machine J) → LogsAre (begun Unpin m) (AsksOf Unpin m)
unpin m =
    choice (begun Unpin m) (m.guards == 1) StoreUnpinned End _ _
    (stores (with_stage (begun Unpin m) StoreUnpinned) AskUnpinned _ tt refl (stops (begun Unpin m)))
    (stops (begun Unpin m))

-- a repin in another epoch than the one published
repins : {J : Type 0} (m : Machine J) (e : ℕ)
    → LogsAre (with_stage m (StoreRepin e)) (AsksStore (StoreRepinned e) (AsksLoad (λ again. AsksNoMore)))
repins m e =
    stores (with_stage m (StoreRepin e)) (StoreRepinned e) _ tt refl
    (loads (record m { stage = ReloadRepin; published = e }) _ refl (λ again. stops (record m { published = e })))

repin : {J : Type 0} (m : Machine J) → LogsAre (begun Repin m) (AsksOf Repin m)
repin m =
    choice (begun Repin m) (m.guards == 1) LoadRepin End _ _
    (loads (with_stage (begun Repin m) LoadRepin) _ refl (λ e.
    choice (begun Repin m) (m.published == e) End (StoreRepin e) _ _ (stops (begun Repin m))
    (repins (begun Repin m) e)))
    (stops (begun Repin m))

-- DEFER AND FLUSH

-- the machine after a put that was made, and after one that found no place
abbrev put_made : {J : Type 0} → Machine J → Machine J
put_made m = record m { stage = after_put m.action false; full = false; held = [] }

abbrev put_refused : {J : Type 0} → Machine J → Machine J
put_refused m = record m { stage = after_put m.action true; full = true }

puts : {J : Type 0} (m : Machine J) (done full : Part J)
    → LogsAre (put_made m) done
    → LogsAre (put_refused m) full
    → LogsAre (with_stage m LoadSeal) (AsksPut done full)
puts m done full made refused =
    loads (with_stage m LoadSeal) _ refl (λ seal. put_steps (with_stage m (Put seal)) seal done full refl made refused)

keep : {J : Type 0} (m : Machine J) → LogsAre (with_stage m Keep) (AsksKeep AsksNoMore)
keep m = keeps (with_stage m Keep) _ refl (λ job. stops (record m { held = m.held ++ job ∷ [] }))

defer : {J : Type 0} (m : Machine J) → LogsAre (begun Defer m) (AsksOf Defer m)
defer m =
    choice (begun Defer m) (length m.held == m.sizes.bag_jobs) LoadSeal Keep _ _
    (puts (begun Defer m) _ _ (keep (put_made (begun Defer m))) (stops (put_refused (begun Defer m))))
    (keep (begun Defer m))

flush : {J : Type 0} (m : Machine J) → IsSized m.sizes → LogsAre (begun Flush m) (AsksOf Flush m)
flush m sized =
    choice (begun Flush m) (is_empty m.held) LoadScan LoadSeal _ _
    (collects (begun Flush m) _ sized (λ hand. stops (collected (begun Flush m) hand)))
    (puts (begun Flush m) _ _
    (collects (put_made (begun Flush m)) _ sized (λ hand. stops (collected (put_made (begun Flush m)) hand)))
    (collects (put_refused (begun Flush m)) _ sized (λ hand. stops (collected (put_refused (begun Flush m)) hand))))

-- RELEASE

-- a release that holds these jobs
abbrev releasing : {J : Type 0} → Machine J → List J → Machine J
releasing m held = record m { stage = after_collect Release held; action = Release; full = false; held = held }

leaves : {J : Type 0} (m : Machine J) → LogsAre (releasing m []) AsksLeave
leaves m =
    stores (releasing m []) AskUnpinned _ tt refl
    (stores (with_stage (releasing m []) StoreFree) AskFree _ tt refl (ends (fresh m.sizes) refl))

-- what is left of a release after its pin
behind_pin : {J : Type 0} (m : Machine J) (held : List J)
    → LogsAre (releasing m held)
    (Choose (is_empty held) AsksLeave (AsksPut AsksLeave (AsksStore AskUnpinned AsksNoMore)))
behind_pin m [] = leaves m
behind_pin m (job ∷ jobs) =
    puts (releasing m (job ∷ jobs)) _ _ (leaves m)
    (stores (put_refused (releasing m (job ∷ jobs))) AskUnpinned _ tt refl
    (stops (put_refused (releasing m (job ∷ jobs)))))

release : {J : Type 0} (m : Machine J) → IsSized m.sizes → LogsAre (begun Release m) (AsksOf Release m)
release m sized =
    pins (begun Release m) _ sized (λ e hand. behind_pin (collected (published (begun Release m) e) hand) m.held)

-- EACH ACTION

pub asks_follow : {J : Type 0} (m n : Machine J) (action : Action) (log : Log J)
    → IsSized m.sizes → Asked (begun action m) log n → AsksOf action m (asks_more n) log
asks_follow m n Pin log sized run = pin m sized _ log n run refl
asks_follow m n Unpin log sized run = unpin m _ log n run refl
asks_follow m n Repin log sized run = repin m _ log n run refl
asks_follow m n Defer log sized run = defer m _ log n run refl
asks_follow m n Flush log sized run = flush m sized _ log n run refl
asks_follow m n Release log sized run = release m sized _ log n run refl
