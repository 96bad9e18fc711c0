use Rattle.std.proofs.Common.{rules}
use Rattle.std.proofs.lemmas.List.Sums.{length-filter}
use Rattle.ps_pddl.proofs.meaning.lists.Listing.counted.Goals as goal

pub returns-then-counts : goal.returns-then-counts
returns-then-counts c = search (rules, length-filter)
