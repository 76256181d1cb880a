use Rattle.ob_frames.proofs.Locals.{locals_lie, locals_meet, others_meet, statics_lie}
use Rattle.ob_frames.proofs.laws.law_objects.Goals as goal

pub returns-clause-locals_lie : goal.returns-clause-locals_lie
returns-clause-locals_lie c = locals_lie

pub returns-clause-locals_meet : goal.returns-clause-locals_meet
returns-clause-locals_meet c = locals_meet

pub returns-clause-others_meet : goal.returns-clause-others_meet
returns-clause-others_meet c = others_meet

pub returns-clause-statics_lie : goal.returns-clause-statics_lie
returns-clause-statics_lie c = statics_lie
