-- Where no run is open more turns change nothing.
use Rattle.std.proofs.Common.{◌≡◌, ℕ, zero, suc, ◌≤◌, ◌%◌, false, List, length, slice_get, option_and_then, if◌then◌else◌, None, arith, ap, sym, ◌∙◌, inl, inr, ◌⊎◌}
use Rattle.std.specs.Option.{option_map_or}
use Rattle.ps_machine.specs.declared.inputs.Input.{Input}
use Rattle.ps_machine.specs.declared.journal.Entry.{Entry}
use Rattle.ps_rules.specs.Runs.{is_running}
use Rattle.ps_rules.specs.Choices.{act_turn, actors, after_turn, ordered, Says, with_block}
use Rattle.ps_order_laws.proofs.Moments.{le_or}
use Rattle.ps_pool.specs.Ordered.{OneEnd}

one_or_less : (m n : ℕ) → m ≤ suc n → (m ≡ suc n) ⊎ (m ≤ n)
one_or_less m n l = grind arith

-- a turn does nothing where no run is open
closed-turn : (says : Says) (i : Input) (n : ℕ) (es : List Entry) → is_running es ≡ false → after_turn says i n es ≡ es
closed-turn says i n es closed =
    ap (λ b. option_map_or (with_block i 1 es) (if b then option_and_then (act_turn says i es) (slice_get (actors i) (n % length (actors i))) else None) es) closed

-- more turns leave the entries where no run is open after fewer
pub closed-turns : (says : Says) (i : Input) (es : List Entry) (m n : ℕ) → m ≤ n → is_running (ordered says i es m) ≡ false → ordered says i es n ≡ ordered says i es m
closed-turns says i es m zero l closed = let none : zero ≡ m = omega arith in ap (ordered says i es) none
closed-turns says i es m (suc n) l closed =
    elim (one_or_less m n l) [
      | inl e ↦ ap (ordered says i es) (sym e)
      | inr k ↦
          let same = closed-turns says i es m n k closed in
          closed-turn says i n (ordered says i es n) (ap is_running same ∙ closed) ∙ same
    ]

pub one_end : OneEnd
one_end says i es new other a b =
    elim (le_or a.turns b.turns) [
      | inl l ↦ a.all ∙ sym (closed-turns says i es a.turns b.turns l (ap is_running (sym a.all) ∙ a.over)) ∙ sym b.all
      | inr l ↦ a.all ∙ closed-turns says i es b.turns a.turns l (ap is_running (sym b.all) ∙ b.over) ∙ sym b.all
    ]
