use Rattle.epoch_tables.proofs.shared_places.laws.no_bag_is_lost.Goals as goal

-- the rule says it
pub returns : goal.returns
returns g c = λ places s r. r.balanced
