-- No step changes the sizes that a world was made for.
use Rattle.std.proofs.Common.{◌≡◌, List, [], ◌∷◌, ap, ◌∙◌}
use Rattle.epoch_laws.specs.declared.step.Entry.{Entry}
use Rattle.epoch_laws.specs.declared.step.Reply.{Reply}
use Rattle.epoch_laws.specs.declared.step.Step.{Step}
use Rattle.epoch_laws.specs.Run.{State, Moves, Runs}
use Rattle.epoch_laws.proofs.SeatChanges.{seats_go}

-- no step changes the sizes
pub moves_same : (old new : State) (reply : Reply) (step : Step) → Moves old step reply new → new.sizes ≡ old.sizes
moves_same old new reply step did = (seats_go old new step reply did).sizes

-- and no run changes them
pub sizes_stay : (old new : State) (log : List Entry) → Runs old log new → new.sizes ≡ old.sizes
sizes_stay old new [] run = ap (λ (s : State). s.sizes) run
sizes_stay old new (x ∷ log) (mid, did, run) = sizes_stay mid new log run ∙ moves_same old _ x.reply x.step did.0
