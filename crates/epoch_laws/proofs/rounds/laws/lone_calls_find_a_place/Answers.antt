use Rattle.epoch_laws.proofs.LonePuts.{lone_calls}
use Rattle.epoch_laws.proofs.rounds.laws.lone_calls_find_a_place.Goals as goal

pub returns : goal.returns
returns c fresh s new earlier p call replies is_fresh run free ended =
    lone_calls fresh s new earlier p call replies is_fresh run free ended
