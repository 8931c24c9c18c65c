use Rattle.std.proofs.Common.{ap}
use Rattle.epoch_lend_nodes.proofs.Told.{answer_of, tells}
use Rattle.epoch_lend_nodes.proofs.spots.NodeSpotsLinkSpots.exchange_next.Goals as goal

-- the node that was placed is shown, which changes none of the call's nodes
pub returns : goal.returns
returns g c = (
  answer_of c.exchange_at.result,
  tells c.exchange_at.result,
  (ap (λ n. n.own) c.show.ensures, ap (λ n. n.name) c.show.ensures, ap (λ n. n.lent) c.show.ensures),
)
