-- What one more entry adds to the text of a journal.
use Rattle.std.proofs.Common.{◌≡◌, List, [], ◌∷◌, ◌++◌, Some, ap, sym, ◌∙◌, append_assoc, append-nil}
use Rattle.ps_world.specs.Names.{Table}
use Rattle.ps_machine.specs.declared.inputs.Input.{Input}
use Rattle.ps_machine.specs.declared.journal.Entry.{Entry}
use Rattle.ps_rules.specs.Heads.{head_text, settings_of}
use Rattle.ps_rules.specs.Journal.{entry_text, journal_text, text_after}

-- the text of two stretches of entries is that of the one, and then that of the other after it
pub text_after-append : (names : Table) (i : Input) (before es fs : List Entry)
    → text_after names i before (es ++ fs) ≡ text_after names i before es ++ text_after names i (before ++ es) fs
text_after-append names i before [] fs = ap (λ b. text_after names i b fs) (sym (append-nil before))
text_after-append names i before (e ∷ es) fs =
    ap (λ text. entry_text names i before e ++ text) (text_after-append names i (before ++ e ∷ []) es fs)
    ∙ ap (λ b. entry_text names i before e ++ (text_after names i (before ++ e ∷ []) es ++ text_after names i b fs)) (append_assoc before (e ∷ []) es)
    ∙ sym (append_assoc (entry_text names i before e) (text_after names i (before ++ e ∷ []) es) (text_after names i (before ++ e ∷ es) fs))

-- the text of a journal goes on with that of the entries that come after
pub journal_text-append : (names : Table) (i : Input) (es fs : List Entry)
    → journal_text names i (es ++ fs) ≡ journal_text names i es ++ text_after names i es fs
journal_text-append names i es fs =
    let head = head_text (Some (settings_of i)) in
    ap (λ text. head ++ text) (text_after-append names i [] es fs)
    ∙ sym (append_assoc head (text_after names i [] es) (text_after names i es fs))

-- the text of one more entry stands at the end
pub journal_text-push : (names : Table) (i : Input) (es : List Entry) (e : Entry)
    → journal_text names i (es ++ e ∷ []) ≡ journal_text names i es ++ entry_text names i es e
journal_text-push names i es e =
    journal_text-append names i es (e ∷ []) ∙ ap (λ text. journal_text names i es ++ text) (append-nil (entry_text names i es e))
