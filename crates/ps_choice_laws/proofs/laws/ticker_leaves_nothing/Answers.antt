use Rattle.ps_choice_laws.proofs.Ticker.{ticker_leaves_nothing}
use Rattle.ps_choice_laws.proofs.laws.ticker_leaves_nothing.Goals as goal

pub returns : goal.returns
returns c = ticker_leaves_nothing
