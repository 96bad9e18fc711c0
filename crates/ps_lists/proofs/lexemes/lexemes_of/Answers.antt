use Rattle.std.proofs.Common.{arith}
use Rattle.ps_lists.proofs.LexemeClasses.{close_lexeme, close_table, open_lexeme, open_table}
use Rattle.ps_lists.proofs.LexemeSteps.{all_lexemes, first_lexemes, next_lexeme, token_next}
use Rattle.ps_lists.proofs.lexemes.lexemes_of.Goals as goal
use Rattle.ps_lists.proofs.lexemes.lexemes_of.Goals.{in-LeftParen, in-RightParen, in-Name+in_ok-name_of-in-Name, in-Variable+in_ok-variable_of-in-Variable, in_default-class+in_ok-lexeme_of-in_default-class}

pub loop-token-init : goal.loop-token-init
loop-token-init c = record {
  lexemes = rw c.in_ok-lexemes.ensures.items (first_lexemes c.args.bytes.now c.args.tokens.items c.reverse.new.self.items c.args.names.now c.reverse.ensures.items c.requires);
  room = omega (arith, c.in_ok-lexemes.ensures.len, c.in_ok-lexemes.ensures.capacity, c.len.ensures, c.reverse.ensures.len);
}

pub name_of-requires-clause-token : goal.name_of-requires-clause-token
name_of-requires-clause-token c =
    token_next c.args.bytes.now c.args.tokens.items c.args.names.now c.loop-token.names c.loop-token.tokens.items c.pop.new.self.items c.in-Some.token c.loop-token.lexemes.items c.in-Some.ensures.items c.loop-token.invariant.lexemes

pub variable_of-requires-clause-token : goal.variable_of-requires-clause-token
variable_of-requires-clause-token c =
    token_next c.args.bytes.now c.args.tokens.items c.args.names.now c.loop-token.names c.loop-token.tokens.items c.pop.new.self.items c.in-Some.token c.loop-token.lexemes.items c.in-Some.ensures.items c.loop-token.invariant.lexemes

pub lexeme_of-requires : goal.lexeme_of-requires
lexeme_of-requires c =
    token_next c.args.bytes.now c.args.tokens.items c.args.names.now c.loop-token.names c.loop-token.tokens.items c.pop.new.self.items c.in-Some.token c.loop-token.lexemes.items c.in-Some.ensures.items c.loop-token.invariant.lexemes

pub loop-token-preserved : goal.loop-token-preserved
loop-token-preserved c =
    let bytes = c.args.bytes.now in
    let tokens = c.args.tokens.items in
    let start = c.args.names.now in
    let now = c.loop-token.names in
    let all = c.loop-token.tokens.items in
    let left = c.pop.new.self.items in
    let token = c.in-Some.token in
    let lexemes = c.loop-token.lexemes.items in
    let so_far = c.loop-token.invariant.lexemes in
    let is = token_next bytes tokens start now all left token lexemes c.in-Some.ensures.items so_far in
    let next = next_lexeme bytes tokens start now all left token lexemes c.in-Some.ensures.items so_far in
    let room = c.loop-token.invariant.room in
    let fewer = c.in-Some.ensures.cases in
    let given = c.give_back_room.ensures.len in
    elim c.match-token.branch [
      | in-LeftParen w ↦ record {
        lexemes = rw (c.give_back_room.ensures.items, w.names-is, w.lexemes-is, w.push_reserved.ensures.items) (next now w.paren.result (open_lexeme bytes now token is w.paren.result w.paren.ensures w.in-LeftParen.is) (open_table bytes now token is w.in-LeftParen.is));
        room = rw (w.lexemes-is, w.push_reserved.ensures.len, w.push_reserved.ensures.capacity) (omega (arith, room, fewer, given));
      }
      | in-RightParen w ↦ record {
        lexemes = rw (c.give_back_room.ensures.items, w.names-is, w.lexemes-is, w.push_reserved-in-RightParen.ensures.items) (next now w.paren-in-RightParen.result (close_lexeme bytes now token is w.paren-in-RightParen.result w.paren-in-RightParen.ensures w.in-RightParen.is) (close_table bytes now token is w.in-RightParen.is));
        room = rw (w.lexemes-is, w.push_reserved-in-RightParen.ensures.len, w.push_reserved-in-RightParen.ensures.capacity) (omega (arith, room, fewer, given));
      }
      | in-Name+in_ok-name_of-in-Name w ↦ record {
        lexemes = rw (c.give_back_room.ensures.items, w.names-is, w.lexemes-is, w.push_reserved-in-Name.ensures.items) (next w.name_of.new.names w.in_ok-name_of-in-Name.field-0 w.in_ok-name_of-in-Name.ensures.ok w.in_ok-name_of-in-Name.ensures.table);
        room = rw (w.lexemes-is, w.push_reserved-in-Name.ensures.len, w.push_reserved-in-Name.ensures.capacity) (omega (arith, room, fewer, given));
      }
      | in-Variable+in_ok-variable_of-in-Variable w ↦ record {
        lexemes = rw (c.give_back_room.ensures.items, w.names-is, w.lexemes-is, w.push_reserved-in-Variable.ensures.items) (next w.variable_of.new.names w.in_ok-variable_of-in-Variable.field-0 w.in_ok-variable_of-in-Variable.ensures.ok w.in_ok-variable_of-in-Variable.ensures.table);
        room = rw (w.lexemes-is, w.push_reserved-in-Variable.ensures.len, w.push_reserved-in-Variable.ensures.capacity) (omega (arith, room, fewer, given));
      }
      | in_default-class+in_ok-lexeme_of-in_default-class w ↦ record {
        lexemes = rw (c.give_back_room.ensures.items, w.names-is, w.lexemes-is, w.push_reserved-in_default-class.ensures.items) (next w.lexeme_of.new.names w.in_ok-lexeme_of-in_default-class.field-0 w.in_ok-lexeme_of-in_default-class.ensures.ok w.in_ok-lexeme_of-in_default-class.ensures.table);
        room = rw (w.lexemes-is, w.push_reserved-in_default-class.ensures.len, w.push_reserved-in_default-class.ensures.capacity) (omega (arith, room, fewer, given));
      }
    ]

pub returns-clause-ok : goal.returns-clause-ok
returns-clause-ok c =
    all_lexemes c.args.bytes.now c.args.tokens.items c.loop-token.tokens.items c.args.names.now c.loop-token.names c.loop-token.lexemes.items (omega (arith, c.loop-token.tokens.ok, c.in_default.ensures.cases.0)) c.loop-token.invariant.lexemes
