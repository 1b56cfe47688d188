use Rattle.ld_safety.proofs.Tiles as tiles
use Rattle.ld_safety.proofs.items_tile.Goals as goal

pub returns : goal.returns
returns c = λ k es b. tiles.items_tile k es
