use Rattle.ld_safety.proofs.Styles as styles
use Rattle.ld_safety.proofs.styles_are_kept.Goals as goal

pub returns : goal.returns
returns c = λ k es b. styles.styles_are_kept k es
