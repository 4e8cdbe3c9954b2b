-- How faults and kinds of frames are named in text.
use Rattle.std.specs.Prelude.{ℕ, List, codes}
use Rattle.node_work.specs.declared.fault.NodeFault.{NodeFault}
use Rattle.node_work.specs.declared.fault.NodeFault.TheVariants.{NoMemory, NumbersAtEnd, Stopped}
use Rattle.replica_store.specs.declared.fault.StoreFault.{StoreFault}
use Rattle.replica_store.specs.declared.fault.StoreFault.TheVariants as store_faults
use Rattle.node_work.specs.declared.frame.FrameKind.{FrameKind}
use Rattle.node_work.specs.declared.frame.FrameKind.TheVariants.{Hello, Delta, Know, Forward, Got}
use Rattle.bridge_frames.specs.declared.body.FrameBody.{FrameBody}
use Rattle.bridge_frames.specs.declared.body.FrameBody.TheVariants as bodies

abbrev pub node_fault_name : NodeFault → List ℕ
node_fault_name NoMemory = codes "NoMemory"
node_fault_name NumbersAtEnd = codes "NumbersAtEnd"
node_fault_name Stopped = codes "Stopped"

abbrev pub frame_name : FrameKind → List ℕ
frame_name Hello = codes "hello"
frame_name Delta = codes "delta"
frame_name Know = codes "know"
frame_name Forward = codes "forward"
frame_name Got = codes "got"

abbrev pub frame_kind : FrameBody → FrameKind
frame_kind (bodies.Hello g) = Hello
frame_kind (bodies.Delta state) = Delta
frame_kind (bodies.Know dots) = Know
frame_kind (bodies.Forward number m) = Forward
frame_kind (bodies.Got number) = Got

-- a fault of the store as one of the node
abbrev pub node_fault : StoreFault → NodeFault
node_fault store_faults.NumbersAtEnd = NumbersAtEnd
node_fault store_faults.NoMemory = NoMemory
node_fault store_faults.BadRow = NoMemory
