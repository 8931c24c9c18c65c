-- Which reply tells an event.
use Rattle.epoch_laws.specs.declared.histories.events.Event.{Event}
use Rattle.epoch_laws.specs.declared.histories.events.Event.TheVariants.{Registered, Pinned, Unpinned, Repinned}
use Rattle.epoch_laws.specs.declared.histories.events.Event.TheVariants.{Deferred}
use Rattle.epoch_laws.specs.declared.histories.events.Event.TheVariants.{Called}
use Rattle.epoch_laws.specs.declared.step.Reply.{Reply}
use Rattle.epoch_laws.specs.declared.step.Reply.TheVariants.{Registered as RegisteredReply, Pinned as PinnedReply}
use Rattle.epoch_laws.specs.declared.step.Reply.TheVariants.{Unpinned as UnpinnedReply, Repinned as RepinnedReply}
use Rattle.epoch_laws.specs.declared.step.Reply.TheVariants.{Deferred as DeferredReply, Called as CalledReply}

abbrev pub reply_of : Event → Reply
reply_of (Registered p) = RegisteredReply p
reply_of (Pinned p) = PinnedReply p
reply_of (Unpinned p) = UnpinnedReply p
reply_of (Repinned p) = RepinnedReply p
reply_of (Deferred t) = DeferredReply t
reply_of (Called t how) = CalledReply t how
