use Rattle.std.proofs.Common.{ap, is_some, rules}
use Rattle.session.specs.Conversations.{desk_in}
use Rattle.session.proofs.Halfway.{answered_shorter, unanswered_taken}
use Rattle.console.proofs.Printing.{starts, held_answer, written_out, no_answer, all_written}
use Rattle.console.proofs.Terminal.feed.Goals as goal

pub loop-answer-init : goal.loop-answer-init
loop-answer-init g c = record { room = c.requires; far = starts _ _ _ }

pub hold-requires : goal.hold-requires
hold-requires g c = c.loop-answer.invariant.room

pub loop-answer-preserved-in-Continue-1 : goal.loop-answer-preserved-in-Continue-1
loop-answer-preserved-in-Continue-1 g c = record {
  room = search (rules, c.in_ok-tell.ensures.none);
  far = rw c.in_ok-tell.ensures.conversation (
      written_out _ _ _ _ _ _ _
      (held_answer _ _ _ _ _ _ c.loop-answer.self.conversation c.feed.new.self c.hold.new.self.conversation c.loop-answer.left.now c.feed.new.input.now c.feed.result c.in-Some.answer
      c.loop-answer.invariant.far c.in-Some.is c.feed.ensures.answer c.feed.ensures.next c.feed.ensures.line c.feed.ensures.left c.hold.ensures.text
      (ap g.O.Write.contents c.hold.ensures.out) c.hold.ensures.conversation)
      c.in_ok-tell.ensures.text c.in_ok-tell.ensures.none);
}

pub loop-answer-preserved : goal.loop-answer-preserved
loop-answer-preserved g c = record {
  room = c.hold.ensures.room c.if-hold.false;
  far =
      held_answer _ _ _ _ _ _ c.loop-answer.self.conversation c.feed.new.self c.hold.new.self.conversation c.loop-answer.left.now c.feed.new.input.now c.feed.result c.in-Some.answer
      c.loop-answer.invariant.far c.in-Some.is c.feed.ensures.answer c.feed.ensures.next c.feed.ensures.line c.feed.ensures.left c.hold.ensures.text
      (ap g.O.Write.contents c.hold.ensures.out) c.hold.ensures.conversation;
}

pub loop-answer-smaller-in-Continue-1 : goal.loop-answer-smaller-in-Continue-1
loop-answer-smaller-in-Continue-1 g c = answered_shorter (desk_in c.loop-answer.self.conversation) c.loop-answer.self.conversation.line c.loop-answer.left.now _ c.feed.result (ap is_some c.in-Some.is) c.feed.ensures.answer c.feed.ensures.left

pub loop-answer-smaller : goal.loop-answer-smaller
loop-answer-smaller g c = answered_shorter (desk_in c.loop-answer.self.conversation) c.loop-answer.self.conversation.line c.loop-answer.left.now _ c.feed.result (ap is_some c.in-Some.is) c.feed.ensures.answer c.feed.ensures.left

pub returns-clause-text : goal.returns-clause-text
returns-clause-text g c =
    all_written _ _ _ _ _ _ _ c.loop-answer.invariant.far
    (no_answer c.loop-answer.self.conversation c.feed.new.self c.loop-answer.left.now c.feed.new.input.now c.feed.result c.in_default.is
    c.feed.ensures.answer c.feed.ensures.next c.feed.ensures.line c.feed.ensures.left (unanswered_taken (desk_in c.loop-answer.self.conversation) c.loop-answer.self.conversation.line c.loop-answer.left.now _ c.feed.result (ap is_some c.in_default.is)
    c.feed.ensures.answer c.feed.ensures.left))
    c.write.ensures.text
