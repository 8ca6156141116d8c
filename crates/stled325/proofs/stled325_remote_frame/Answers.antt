-- `stled325::stled325_remote_frame` meets its contract. Assumes nothing.
use Rattle.stled325.proofs.Calls.{frame_stored}
use Rattle.stled325.proofs.stled325_remote_frame.Goals as goal

pub returns : goal.returns
returns c =
    frame_stored _ _ c.in_ok-panel.ensures.value _ _ _ c.key-received.ensures c.in_ok-key.ensures.key _ _ c.receive_key.ensures c.store.ensures
