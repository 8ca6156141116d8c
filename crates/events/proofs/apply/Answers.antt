-- `events::apply` meets its contract: the event is of the panel in the image. Assumes nothing.
use Rattle.events.proofs.apply.Goals as goal

pub returns : goal.returns
returns g c = (c.event.result, (rw c.panel_in-panel.ensures at c.event.ensures, c.store.ensures))
