-- The run of one act, computed: each part in a declaration of its own.
use Rattle.std.proofs.Common.{◌≡◌, refl}
use Rattle.std.specs.Fmt.{digits}
use Rattle.ps_action.specs.declared.answers.Answer.TheVariants.{NoPlan}
use Rattle.ps_rules.specs.Cart.{cart_entries, cart_input, cart_names, cart_text}
use Rattle.ps_rules.specs.Choices.{session_ordered}
use Rattle.ps_rules.specs.History.{IsHistory}
use Rattle.ps_rules.specs.History.IsHistory.{nothing, block}
use Rattle.ps_rules.specs.Journal.{journal_text}

pub cart_history : IsHistory cart_input cart_entries
unfolding digits
cart_history =
    let edits = block _ _ (block _ _ (block _ _ (block _ _ nothing refl refl) refl refl) refl refl) refl refl in
    let begun = block _ _ (block _ _ (block _ _ (block _ _ (block _ _ (block _ _ edits refl refl) refl refl) refl refl) refl refl) refl refl) refl refl in
    block _ _ (block _ _ (block _ _ (block _ _ begun refl refl) refl refl) refl refl) refl refl

pub cart_printed : journal_text cart_names cart_input cart_entries ≡ cart_text
unfolding digits
cart_printed = refl

pub cart_ordered : session_ordered (λ d k budget. NoPlan) cart_input 16 ≡ cart_entries
unfolding digits
cart_ordered = refl
