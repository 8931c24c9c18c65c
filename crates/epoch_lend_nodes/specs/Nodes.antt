-- What a node has.
use Rattle.epoch_lend_nodes.specs.declared.node.ListNode.{ListNode, out-ListNode}

-- the value of a node
abbrev pub value_of : {V : Type 0} → ListNode V → V
value_of {V} node = (out-ListNode V node).value
