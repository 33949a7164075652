-- Private: what the parser's code keeps, as states of the parser.
use Rattle.std.specs.Prelude.{◌≡◌, ◌⊎◌, List, [], ◌∷◌, Option}
use Rattle.std.specs.Option.{option_map}
use Rattle.po_header.specs.declared.parse.Frame.{Frame}
use Rattle.po_header.specs.declared.parse.Frame.TheVariants.{Bracket, Bang, Left, Condition, Branch}
use Rattle.po_header.specs.declared.tree.Node.{Node}
use Rattle.po_header.specs.declared.ExprFault.{ExprFault}
use Rattle.po_header.specs.declared.ExprFault.TheVariants.{Malformed, Memory}
use Rattle.po_header.specs.Nodes.{node_tree}
use Rattle.po_header.specs.Stack.{Waiting, BracketWaits, BangWaits, LeftWaits, ConditionWaits, BranchWaits, State}

abbrev pub frame_waits : Frame → Waiting
frame_waits Bracket = BracketWaits
frame_waits Bang = BangWaits
frame_waits (Left operator left) = LeftWaits operator (node_tree left)
frame_waits (Condition condition) = ConditionWaits (node_tree condition)
frame_waits (Branch condition chosen) = BranchWaits (node_tree condition) (node_tree chosen)

-- the frames, the newest last, on top of what waits already
abbrev pub stack_on : List Waiting → List Frame → List Waiting
stack_on ws [] = ws
stack_on ws (frame ∷ frames) = stack_on (frame_waits frame ∷ ws) frames

abbrev pub stack_of : List Frame → List Waiting
stack_of frames = stack_on [] frames

-- the frames and the operand that was read last, as a state
abbrev pub state_of : List Frame → Option Node → State
state_of frames operand = record { waiting = stack_of frames; operand = option_map node_tree operand }

-- out of memory, or malformed and P
abbrev pub IsFault : ExprFault → Type 0 → Type 0
IsFault fault P = (fault ≡ Memory) ⊎ ((fault ≡ Malformed) × P)
