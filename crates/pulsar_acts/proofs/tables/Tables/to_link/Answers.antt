use Rattle.pulsar_acts.proofs.tables.Tables.to_link.Goals as goal

pub returns-in-Ends-clause-sees : goal.returns-in-Ends-clause-sees
returns-in-Ends-clause-sees c = rw c.in-Ends.is c.ends.ensures.sees

pub returns-in-Opens-clause-sees : goal.returns-in-Opens-clause-sees
returns-in-Opens-clause-sees c = rw c.in-Opens.is c.opens.ensures.sees

pub returns-in-Reads-clause-sees : goal.returns-in-Reads-clause-sees
returns-in-Reads-clause-sees c = rw c.in-Reads.is c.reads.ensures.sees

pub returns-in-Drains-clause-sees : goal.returns-in-Drains-clause-sees
returns-in-Drains-clause-sees c = rw c.in-Drains.is c.drains.ensures.sees

pub returns-in-Pings-clause-sees : goal.returns-in-Pings-clause-sees
returns-in-Pings-clause-sees c = rw c.in-Pings.is c.pings.ensures.sees
