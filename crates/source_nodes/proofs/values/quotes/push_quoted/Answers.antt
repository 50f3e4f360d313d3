use Rattle.std.proofs.Common.{◌++◌, rules}
use Rattle.source_model.specs.Values.{unescaped}
use Rattle.source_nodes.proofs.Texts.{quote_ends, plain_passed, escape_passed}
use Rattle.source_nodes.proofs.values.quotes.push_quoted.Goals as goal

pub returns-then-first-quote-clause-pushed : goal.returns-then-first-quote-clause-pushed
returns-then-first-quote-clause-pushed c = λ inner after t e.
    quote_ends c.args.quote c.loop-rest.rest.now after c.loop-rest.bytes (c.args.bytes.now ++ unescaped inner) c.in-len1-up.len_at_least c.requires
    c.if-first-quote.true (c.loop-rest.invariant.passed inner after t e)

pub loop-rest-preserved-then-first-eq92 : goal.loop-rest-preserved-then-first-eq92
loop-rest-preserved-then-first-eq92 c = record {
  passed = λ inner after t e.
      escape_passed c.args.quote c.loop-rest.rest.now c.in_ok-rest.rest.now after c.loop-rest.bytes c.push_escape.new.bytes
      (c.args.bytes.now ++ unescaped inner) c.in-len1-up.len_at_least c.if-first-quote.false c.if-first-eq92.true c.in_ok-rest.ensures.pushed
      (c.loop-rest.invariant.passed inner after t e);
  shorter = search rules;
}

pub loop-rest-preserved : goal.loop-rest-preserved
loop-rest-preserved c = record {
  passed = λ inner after t e.
      plain_passed c.args.quote c.loop-rest.rest.now after c.loop-rest.bytes c.push.new.self (c.args.bytes.now ++ unescaped inner)
      c.in-len1-up.len_at_least c.if-first-quote.false c.if-first-eq92.false c.in_ok-push.ensures.ok (c.loop-rest.invariant.passed inner after t e);
  shorter = search rules;
}
