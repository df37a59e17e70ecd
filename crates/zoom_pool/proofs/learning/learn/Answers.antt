use Rattle.zoom_pool.proofs.learning.learn.Goals as goal

pub returns-in-Opened-clause-ok : goal.returns-in-Opened-clause-ok
returns-in-Opened-clause-ok c = rw c.in-Opened.is c.add_answer.ensures.ok

pub returns-in-Rejected-clause-ok : goal.returns-in-Rejected-clause-ok
returns-in-Rejected-clause-ok c = rw c.in-Rejected.is c.add_answer-in-Rejected.ensures.ok

pub returns-in-Answered-clause-ok : goal.returns-in-Answered-clause-ok
returns-in-Answered-clause-ok c = rw c.in-Answered.is c.add_answer-in-Answered.ensures.ok
