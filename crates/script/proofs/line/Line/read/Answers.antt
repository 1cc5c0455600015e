-- A newline ends the line, the end of the input does, or a part more is read.
use Rattle.std.proofs.Common.{◌≡◌, not, nat_lt, length, refl, rules}
use Rattle.script.proofs.Lines.{not_empty, read_ended, read_last, read_more}
use Rattle.script.proofs.line.Line.read.Goals as goal

pub returns-then-is_ended-clause-line : goal.returns-then-is_ended-clause-line
returns-then-is_ended-clause-line g c =
    (read_ended _ _ _ c.loop.self.bytes.items _ _ _ c.in-Break.is c.if-is_ended.true c.loop.invariant c.in_ok-is_ended.ensures).line

pub returns-then-is_ended-clause-rest : goal.returns-then-is_ended-clause-rest
returns-then-is_ended-clause-rest g c =
    (read_ended _ _ _ c.loop.self.bytes.items _ _ _ c.in-Break.is c.if-is_ended.true c.loop.invariant c.in_ok-is_ended.ensures).rest

pub returns-then-is_ended-clause-found : goal.returns-then-is_ended-clause-found
returns-then-is_ended-clause-found g c =
    (read_ended _ _ _ c.loop.self.bytes.items _ _ _ c.in-Break.is c.if-is_ended.true c.loop.invariant c.in_ok-is_ended.ensures).found

pub returns-else-is_ended-clause-line : goal.returns-else-is_ended-clause-line
returns-else-is_ended-clause-line g c =
    (read_last _ _ _ c.loop.self.bytes.items _ _ _ _ c.in-Break.is c.if-is_ended.false refl c.loop.invariant c.in_ok-is_ended.ensures).line

pub returns-else-is_ended-clause-rest : goal.returns-else-is_ended-clause-rest
returns-else-is_ended-clause-rest g c =
    (read_last _ _ _ c.loop.self.bytes.items _ _ _ _ c.in-Break.is c.if-is_ended.false refl c.loop.invariant c.in_ok-is_ended.ensures).rest

pub returns-else-is_ended-clause-found : goal.returns-else-is_ended-clause-found
returns-else-is_ended-clause-found g c =
    let found : not c.is_empty.result ≡ nat_lt 0 (length c.read_part.new.self.bytes.items) = search (rules, not_empty) in
    (read_last _ _ _ c.loop.self.bytes.items _ _ _ _ c.in-Break.is c.if-is_ended.false found c.loop.invariant c.in_ok-is_ended.ensures).found

pub loop-preserved : goal.loop-preserved
loop-preserved g c = read_more _ _ _ c.loop.self.bytes.items _ _ c.in_default.is c.loop.invariant c.in_ok-is_ended.ensures
