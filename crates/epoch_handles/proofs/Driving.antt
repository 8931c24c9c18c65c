-- Pieces of what a thread performs, put together.
use Rattle.std.proofs.Common.{ℕ, [], ◌∷◌, ◌++◌, refl, subst}
use Rattle.epoch_machine.specs.Machine.{Machine}
use Rattle.epoch_machine.specs.Asks.{Log, Exchange, Reply, JobGiven}
use Rattle.epoch_handles.specs.Drives.{Sight, Situation, Exchanges, Performed, HoldsOfGiven, GivesOnly, NoJob, Reaches}
use Rattle.epoch_handles.specs.Drives.{Drives}

module _ {J : Type 0} where
  -- one exchange, and no more
  pub one_performed : (places : ℕ) (before after : Situation J) (x : Exchange J)
      → Exchanges places before x after
      → Performed places before (x ∷ []) after
  one_performed places before after x exchanges = (after, exchanges, refl)

  -- one log after another
  pub performed_on : (places : ℕ) (before between after : Situation J) (log more : Log J)
      → Performed places before log between
      → Performed places between more after
      → Performed places before (log ++ more) after
  performed_on places before between after [] more same further =
      subst (λ z. Performed places z more after) same further
  performed_on places before between after (x ∷ log) more (next, exchanges, behind) further =
      (next, exchanges, performed_on places next between after log more behind further)

  -- WHICH JOBS WERE GIVEN

  -- two logs that give such jobs alone do so one behind the other
  pub gives_on : (IsSuch : J → Type 0) (log more : Log J)
      → GivesOnly IsSuch log → GivesOnly IsSuch more → GivesOnly IsSuch (log ++ more)
  gives_on IsSuch [] more first further = further
  gives_on IsSuch (x ∷ log) more first further = (first.0, gives_on IsSuch log more first.1 further)

  -- a job given that is such is also as here
  also_given : (IsSuch IsSo : J → Type 0) → ((job : J) → IsSuch job → IsSo job)
      → (reply : Reply J) → HoldsOfGiven IsSuch reply → HoldsOfGiven IsSo reply
  also_given IsSuch IsSo also (JobGiven job) such = also job such
  also_given IsSuch IsSo also _ such = tt

  -- jobs that are such are so as well, where the one follows from the other
  pub gives_also : (IsSuch IsSo : J → Type 0) → ((job : J) → IsSuch job → IsSo job)
      → (log : Log J) → GivesOnly IsSuch log → GivesOnly IsSo log
  gives_also IsSuch IsSo also [] such = tt
  gives_also IsSuch IsSo also (x ∷ log) such =
      (also_given IsSuch IsSo also x.reply such.0, gives_also IsSuch IsSo also log such.1)

  -- WHAT IS DRIVEN

  -- a machine that was asked nothing is where it was
  pub drives_none : (IsSuch : J → Type 0) (places : ℕ) (m : Machine J) (v : Sight J) → Drives IsSuch places m v m v
  drives_none IsSuch places m v = λ c. (c, [], refl, tt)

  -- what drives a machine on goes on from where it has come
  pub drives_on : (IsSuch : J → Type 0) (places : ℕ) (m n o : Machine J) (v u w : Sight J)
      → Drives IsSuch places m v n u
      → Drives IsSuch places n u o w
      → Drives IsSuch places m v o w
  drives_on IsSuch places m n o v u w first second = λ c.
      let one = first c in
      let two = second one.0 in (
        two.0,
        one.1 ++ two.1,
        performed_on places _ _ _ one.1 two.1 one.2 two.2,
        gives_on IsSuch one.1 two.1 one.3 two.3,
      )

  -- what is such is also as here
  pub drives_also : (IsSuch IsSo : J → Type 0) → ((job : J) → IsSuch job → IsSo job)
      → (places : ℕ) (m n : Machine J) (v u : Sight J)
      → Drives IsSuch places m v n u
      → Drives IsSo places m v n u
  drives_also IsSuch IsSo also places m n v u drives = λ c.
      let one = drives c in
      (one.0, one.1, one.2, gives_also IsSuch IsSo also one.1 one.3)

  -- where no job was given, each was such
  pub drives_of : (IsSuch : J → Type 0) (places : ℕ) (m n : Machine J) (v u : Sight J)
      → Drives NoJob places m v n u
      → Drives IsSuch places m v n u
  drives_of IsSuch places m n v u drives = drives_also NoJob IsSuch (λ job none. absurd none) places m n v u drives

  -- a situation that was reached leads on to the ones behind it
  pub reaches_on : (IsSuch : J → Type 0) (places : ℕ) (m : Machine J) (v : Sight J) (between after : Situation J)
      → Reaches IsSuch places m v between
      → (more : Log J) → Performed places between more after → GivesOnly IsSuch more
      → Reaches IsSuch places m v after
  reaches_on IsSuch places m v between after first more further such = λ c.
      let one = first c in (
        one.0 ++ more,
        performed_on places _ between after one.0 more one.1 further,
        gives_on IsSuch one.0 more one.2 such,
      )

  -- a situation that was reached is one that the machine was driven to
  pub reached : (IsSuch : J → Type 0) (places : ℕ) (m : Machine J) (v : Sight J) (after : Situation J)
      → Reaches IsSuch places m v after
      → Drives IsSuch places m v after.machine after.sight
  reached IsSuch places m v after there = λ c. let one = there c in (after.cursors, one.0, one.1, one.2)
