-- Histories read from their front.
use Rattle.std.proofs.Common.{◌≡◌, IsTrue, refl, List, [], ◌∷◌, ◌++◌, sym, subst, append_assoc, append-nil}
use Rattle.ps_machine.specs.declared.inputs.Input.{Input}
use Rattle.ps_machine.specs.declared.journal.Entry.{Entry}
use Rattle.ps_rules.specs.History.{forced, IsHistory}
use Rattle.ps_rules.specs.History.IsHistory.{nothing, block}
use Rattle.ps_rules.specs.Legal.{has_hand, is_legal}
use Rattle.ps_rules.specs.Prefixes.{Leads, HistoriesLead, PrefixesGoOn}
use Rattle.ps_rules.specs.Legal.{has_hand, is_legal}
use Rattle.ps_rules.specs.Prefixes.Leads.{here, owed, next}

-- what is due may come
all-owed : (i : Input) (before due : List Entry) → Leads i before due due []
all-owed i before [] = here before []
all-owed i before (c ∷ due) = owed before due due [] c (all-owed i (before ++ c ∷ []) due)

-- one stretch of entries after another
pub leads-on : (i : Input) (before due es mid fs last : List Entry) → Leads i before due es mid → Leads i (before ++ es) mid fs last → Leads i before due (es ++ fs) last
leads-on i _ _ _ _ fs last (here before due) g = subst (λ t. Leads i t due fs last) (append-nil before) g
leads-on i _ _ _ mid fs last (owed before due es _ c h) g =
    owed before due (es ++ fs) last c (leads-on i (before ++ c ∷ []) due es mid fs last h (subst (λ t. Leads i t mid fs last) (sym (append_assoc before (c ∷ []) es)) g))
leads-on i _ _ _ mid fs last (next before es _ e legal hand h) g =
    next before (es ++ fs) last e legal hand
    (leads-on i (before ++ e ∷ []) (forced i before e) es mid fs last h (subst (λ t. Leads i t mid fs last) (sym (append_assoc before (e ∷ []) es)) g))

pub history-leads : (i : Input) (es : List Entry) → IsHistory i es → Leads i [] [] es []
history-leads i _ nothing = here [] []
history-leads i _ (block es e h legal hand) =
    leads-on i [] [] es [] (e ∷ forced i es e) [] (history-leads i es h)
    (next es (forced i es e) [] e legal hand (all-owed i (es ++ e ∷ []) (forced i es e)))

-- where what came and what is due are a history, so are what came then and what is due at the end
leads-history : (i : Input) (before due es last : List Entry) → Leads i before due es last → IsHistory i (before ++ due) → IsHistory i ((before ++ es) ++ last)
leads-history i _ _ _ _ (here before due) h = subst (λ t. IsHistory i (t ++ due)) (sym (append-nil before)) h
leads-history i _ _ _ last (owed before due es _ c l) h =
    let g = leads-history i (before ++ c ∷ []) due es last l (subst (IsHistory i) (sym (append_assoc before (c ∷ []) due)) h) in
    subst (λ t. IsHistory i (t ++ last)) (append_assoc before (c ∷ []) es) g
leads-history i _ _ _ last (next before es _ e legal hand l) h =
    let made = block before e (subst (IsHistory i) (append-nil before) h) legal hand in
    let g = leads-history i (before ++ e ∷ []) (forced i before e) es last l (subst (IsHistory i) (sym (append_assoc before (e ∷ []) (forced i before e))) made) in
    subst (λ t. IsHistory i (t ++ last)) (append_assoc before (e ∷ []) es) g

pub prefixes_go_on : PrefixesGoOn
prefixes_go_on i es due l = leads-history i [] [] es due l nothing

pub histories_lead : HistoriesLead
histories_lead i es = (history-leads i es, λ l. subst (IsHistory i) (append-nil es) (prefixes_go_on i es [] l))

-- ---- what the next entry has to be

pub lead-owed : (i : Input) (before due es last : List Entry) (c e : Entry) → Leads i before (c ∷ due) (e ∷ es) last → (e ≡ c) × Leads i (before ++ c ∷ []) due es last
lead-owed i before due es last c e (owed _ _ _ _ _ l) = (refl, l)

pub lead-next : (i : Input) (before es last : List Entry) (e : Entry) → Leads i before [] (e ∷ es) last
    → IsTrue (is_legal i before e.what) × IsTrue (has_hand e.what e.hand) × Leads i (before ++ e ∷ []) (forced i before e) es last
lead-next i before es last e (next _ _ _ _ legal hand l) = (legal, hand, l)
