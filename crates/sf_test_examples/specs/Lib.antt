pub mod AgentCluster
