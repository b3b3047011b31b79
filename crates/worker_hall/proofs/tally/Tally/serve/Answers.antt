use Rattle.worker_hall.proofs.tally.Tally.serve.Goals as goal

pub returns-clause-once : goal.returns-clause-once
returns-clause-once g c = record {
  input = c.args.input;
  output = c.args.output;
  input_after = c.serve.new.input;
  output_after = c.serve.new.output;
  sides = c.requires.sides;
  is = c.serve.ensures;
}
