use Rattle.std.proofs.Common.{rules}
use Rattle.rules.specs.Step.{number_of}
use Rattle.tables.proofs.answers.number_of.Goals as goal

pub returns : goal.returns
unfolding number_of
returns c = search rules

pub returns-2 : goal.returns-2
unfolding number_of
returns-2 c = search rules

pub returns-3 : goal.returns-3
unfolding number_of
returns-3 c = search rules

pub returns-4 : goal.returns-4
unfolding number_of
returns-4 c = search rules

pub returns-5 : goal.returns-5
unfolding number_of
returns-5 c = search rules

pub returns-6 : goal.returns-6
unfolding number_of
returns-6 c = search rules

pub returns-7 : goal.returns-7
unfolding number_of
returns-7 c = search rules

pub returns-8 : goal.returns-8
unfolding number_of
returns-8 c = search rules

pub returns-9 : goal.returns-9
unfolding number_of
returns-9 c = search rules
