-- The order of facts.
use Rattle.std.specs.Cmp.{IsTotalOrder, nat_cmp_total, on_total, then_total}
use Rattle.std.specs.Cmp.Lexicographic.{lists_total}
use Rattle.ps_world.specs.Facts.{fact_cmp}

pub facts_total : IsTotalOrder fact_cmp
facts_total = then_total (on_total (λ f. f.head) (on_total (λ n. n.0) nat_cmp_total)) (on_total (λ f. f.args) (lists_total (on_total (λ n. n.0) nat_cmp_total)))
