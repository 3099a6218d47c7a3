use Rattle.deku_picture.proofs.program.sample_of.Goals as goal

pub returns-in_ok-sample-in-Bytes-clause-shown : goal.returns-in_ok-sample-in-Bytes-clause-shown
returns-in_ok-sample-in-Bytes-clause-shown c = rw c.in-Bytes.is (c.in_ok-sample-in-Bytes.sample.bytes.items, c.in_ok-sample-in-Bytes.sample.values, c.in_ok-sample-in-Bytes.ensures.read)
