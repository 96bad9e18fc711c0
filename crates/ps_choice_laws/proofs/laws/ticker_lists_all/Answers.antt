use Rattle.ps_choice_laws.proofs.Ticker.{ticker_lists_all}
use Rattle.ps_choice_laws.proofs.laws.ticker_lists_all.Goals as goal

pub returns : goal.returns
returns c = ticker_lists_all
