-- Each text is read as something, levels of depth are parentheses, and each domain that can be written is read back from its text.
use Rattle.std.specs.Prelude.{◌≡◌, ℕ, ◌≤◌, ◌↔◌, true, List, Result, Ok, slice_get, take}
use Rattle.ps_world.specs.DomainTexts.{domain_text}
use Rattle.ps_world.specs.Names.{Table}
use Rattle.ps_world.specs.declared.domains.Domain.{Domain}
use Rattle.ps_machine.specs.declared.members.Member.{Member}
use Rattle.ps_text.specs.Names.{AreNames}
use Rattle.ps_grammar.specs.Forms.{opened_at}
use Rattle.ps_grammar.specs.Fronts.{IsFront}
use Rattle.ps_grammar.specs.Shape.{IsDomainShape, IsTooDeep, deepest, wanted}
use Rattle.ps_grammar.specs.Symbols.{level}
use Rattle.ps_grammar.specs.declared.marks.Mark.{Mark}
use Rattle.ps_script.specs.Lines as script
use Rattle.ps_script.specs.Forms as script_form
use Rattle.ps_script.specs.declared.forms.Form.{Form as ScriptForm}
use Rattle.ps_script.specs.declared.reading.Read.{Read}
use Rattle.ps_members.specs.Forms as member_form
use Rattle.ps_members.specs.Members.{IsMember}
use Rattle.ps_members.specs.declared.forms.Form.{Form as MemberForm}
use Rattle.ps_members.specs.declared.refusals.ScriptRefusal.{ScriptRefusal}
use Rattle.ps_pddl.specs.Reading as domain
use Rattle.ps_pddl.specs.WellFormed.{IsWellFormed}
use Rattle.ps_pddl.specs.declared.refusals.DomainRefusal.{DomainRefusal}
use Rattle.ps_reading_laws.specs.Levels.{CountsParentheses, levels_after, open_forms, opened_in, opens_in}
use Rattle.ps_reading_laws.specs.Writable.{IsWritableDomain}

-- Every text is read as a domain or has a first fault, whatever the table of names.
abbrev pub EveryTextIsRead : Type 0
EveryTextIsRead = (table : Table) (bytes : List ℕ) → (read : Result Domain DomainRefusal) × (after : Table) × domain.IsRead table bytes read after

-- Every line of a script is read as something, whatever the table of names.
abbrev pub EveryLineIsRead : Type 0
EveryLineIsRead = (table : Table) (bytes : List ℕ) → (read : Read) × (after : Table) × script.IsRead table bytes read after

-- Every text is read as a member of the domain or has a first fault, whatever the table of names.
abbrev pub EveryMemberIsRead : Type 0
EveryMemberIsRead = (d : Domain) (table : Table) (bytes : List ℕ) → (read : Result Member ScriptRefusal) × (after : Table) × IsMember d table bytes read after

-- After marks that begin a domain's text, the level that counts against the limit is the number of parentheses open, and one more for each
-- of them whose form stands alone.
abbrev pub LevelsAreParentheses : Type 0
LevelsAreParentheses = (ms : List Mark) → IsFront IsDomainShape ms → level (wanted ms) ≡ levels_after ms

-- After marks that begin a domain's text, the mark here opens a level too many exactly where it opens one among the open forms, and as many
-- levels count as may.
abbrev pub DepthsAreParentheses : Type 0
DepthsAreParentheses = (ms : List Mark) (at : ℕ) → IsFront IsDomainShape (take at ms) → IsTooDeep ms at ↔ ((opens_in (open_forms (take at ms)) (slice_get ms at) ≡ true) × (deepest ≤ levels_after (take at ms)))

-- Such a level is refused at the parenthesis to which it belongs.
abbrev pub DepthsAreToldThere : Type 0
DepthsAreToldThere = (ms : List Mark) (at : ℕ) → IsFront IsDomainShape ms → opened_at (slice_get (wanted ms) 0) at ≡ opened_in (open_forms ms) at

-- In a line of a script a parenthesis opens a level too many exactly where as many stand open as levels may.
abbrev pub LineDepthsAreParentheses : Type 0
LineDepthsAreParentheses = (f : ScriptForm) → CountsParentheses (script_form.start_of f)

-- The same in a line of a member's text.
abbrev pub MemberDepthsAreParentheses : Type 0
MemberDepthsAreParentheses = (f : MemberForm) → CountsParentheses (member_form.start_of f)

-- The canonical text of each domain that is well formed and can be written with a table of names is read as that domain.
abbrev pub DomainsAreReadBack : Type 0
DomainsAreReadBack = (names : Table) (d : Domain) → AreNames names → IsWellFormed d → IsWritableDomain names d → (again : Table) × domain.IsRead names (domain_text names d) (Ok d) again

-- Each domain that is read with a table of names is well formed and can be written with the table after it, which is one of names too.
abbrev pub ReadDomainsAreWritable : Type 0
ReadDomainsAreWritable = (table : Table) (bytes : List ℕ) (d : Domain) (after : Table) → AreNames table → domain.IsRead table bytes (Ok d) after → AreNames after × IsWellFormed d × IsWritableDomain after d

-- Two well-formed domains that can be written with a table of names are the same where they have one canonical text, so no part of a domain
-- is passed over in its text.
abbrev pub PrintedDomainsAreOne : Type 0
PrintedDomainsAreOne = (names : Table) (d e : Domain) → AreNames names → IsWellFormed d → IsWritableDomain names d → IsWellFormed e → IsWritableDomain names e → domain_text names d ≡ domain_text names e → d ≡ e
