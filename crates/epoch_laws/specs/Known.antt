-- What a log tells of one participant, its guards aside, and what an entry does to its guards.
use Rattle.std.specs.Prelude.{ℕ, List, [], ◌∷◌, ◌++◌}
use Rattle.epoch_laws.specs.declared.histories.known.Known.{Known}
use Rattle.epoch_laws.specs.declared.histories.known.GuardChange.{GuardChange}
use Rattle.epoch_laws.specs.declared.histories.known.GuardChange.TheVariants.{Adds, Takes, Keeps}
use Rattle.epoch_laws.specs.Lawful.{Told}
use Rattle.epoch_laws.specs.Run.{without}

abbrev pub known_of : Told → Known
known_of t = record {
  registered = t.registered;
  call = t.call;
  paused = t.paused;
  pinned = t.pinned;
  did_pin = t.did_pin;
  did_unpin = t.did_unpin;
  did_repin = t.did_repin;
  did_defer = t.did_defer;
  did_call_now = t.did_call_now;
}

-- the guards after a change
abbrev pub changed : GuardChange → List ℕ → List ℕ
changed (Adds g) guards = guards ++ g ∷ []
changed (Takes g) guards = without g guards
changed Keeps guards = guards
