-- `script::texts::shows_keys` meets its contract. The definition at each edit. Assumes nothing.
use mathlib.Core.Path.{ap, sym}
use Rattle.script.specs.Texts.{shows_keys}
use Rattle.script.proofs.texts.shows_keys.Goals as goal

pub returns-in-VertexInsert : goal.returns-in-VertexInsert
unfolding shows_keys
returns-in-VertexInsert c = sym (ap shows_keys c.in-VertexInsert.is)

pub returns-in-FaceInsert : goal.returns-in-FaceInsert
unfolding shows_keys
returns-in-FaceInsert c = sym (ap shows_keys c.in-FaceInsert.is)

pub returns-in-FaceRemove : goal.returns-in-FaceRemove
unfolding shows_keys
returns-in-FaceRemove c = sym (ap shows_keys c.in-FaceRemove.is)

pub returns-in-FaceSplit : goal.returns-in-FaceSplit
unfolding shows_keys
returns-in-FaceSplit c = sym (ap shows_keys c.in-FaceSplit.is)

pub returns-in-FacePoke : goal.returns-in-FacePoke
unfolding shows_keys
returns-in-FacePoke c = sym (ap shows_keys c.in-FacePoke.is)

pub returns-in-FaceBridge : goal.returns-in-FaceBridge
unfolding shows_keys
returns-in-FaceBridge c = sym (ap shows_keys c.in-FaceBridge.is)

pub returns-in-FaceExtrude : goal.returns-in-FaceExtrude
unfolding shows_keys
returns-in-FaceExtrude c = sym (ap shows_keys c.in-FaceExtrude.is)

pub returns-in-ArcBridge : goal.returns-in-ArcBridge
unfolding shows_keys
returns-in-ArcBridge c = sym (ap shows_keys c.in-ArcBridge.is)

pub returns-in-ArcExtrude : goal.returns-in-ArcExtrude
unfolding shows_keys
returns-in-ArcExtrude c = sym (ap shows_keys c.in-ArcExtrude.is)
